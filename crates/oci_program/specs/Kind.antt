-- The kinds of refusals.
use Rattle.std.specs.Prelude.{◌≡◌, ◌⊎◌, ℕ, List, [], ◌∷◌, eqb, if◌then◌else◌, Option, None, Some, IfSome, IsSomeAnd, String}
use Rattle.std.specs.IoError.{error_kind}
use Rattle.std.specs.List.{list_any}
use Rattle.std.specs.Option.{option_copied, option_map}
use Rattle.std.specs.declared.alloc.Global.{Global}
use Rattle.std.specs.declared.io.ErrorKind.{ErrorKind}
use Rattle.std.specs.declared.io.ErrorKind.TheVariants.{NotFound, PermissionDenied, ReadOnlyFilesystem, StorageFull, QuotaExceeded}
use Rattle.oci_program.specs.declared.kind.Kind.{Kind}
use Rattle.oci_program.specs.declared.kind.Kind.TheVariants as kind
use Rattle.oci_program.specs.declared.refused_path.Reason.{Reason}
use Rattle.oci_program.specs.declared.refused_path.Side.{Side}
use Rattle.oci_program.specs.declared.refused_path.Sides.{Sides}

-- ---- the last numbers of the refusals of each kind

-- the command line names something that is not there
unfoldable pub not_found : List ℕ
not_found = 20 ∷ 36 ∷ 37 ∷ 45 ∷ 70 ∷ 97 ∷ 107 ∷ 108 ∷ []

-- a layout or an archive lacks something that it needs, or has other content than it should
unfoldable pub damaged : List ℕ
damaged = 10 ∷ 11 ∷ 12 ∷ 13 ∷ 14 ∷ 21 ∷ 31 ∷ 32 ∷ 40 ∷ 42 ∷ 53 ∷ 55 ∷ 71 ∷ 73 ∷ 75 ∷ 77 ∷ 80 ∷ 83 ∷ 96
    ∷ 102 ∷ 103 ∷ 109 ∷ []

-- another process works in the folder
unfoldable pub locked : List ℕ
locked = 99 ∷ 110 ∷ []

-- a file, a folder or the output could not be read or written
unfoldable pub device : List ℕ
device = 22 ∷ 43 ∷ 74 ∷ 79 ∷ 90 ∷ 93 ∷ 94 ∷ 105 ∷ []

-- memory ran out
unfoldable pub memory : List ℕ
memory = 15 ∷ 23 ∷ 34 ∷ 38 ∷ 41 ∷ 47 ∷ 48 ∷ 52 ∷ 58 ∷ 63 ∷ 76 ∷ 86 ∷ 89 ∷ 91 ∷ 106 ∷ []

-- the kind of the refusals whose last number this is
unfoldable pub kind_of_number : ℕ → Kind
kind_of_number n =
    if list_any (λ m. eqb n m) not_found then kind.NotFound
    else if list_any (λ m. eqb n m) damaged then kind.Damaged
    else if list_any (λ m. eqb n m) locked then kind.Locked
    else if list_any (λ m. eqb n m) device then kind.Device
    else if list_any (λ m. eqb n m) memory then kind.Memory
    else kind.Refused

-- the kind of the refusals for a call of the system that failed so
abbrev pub kind_of_error : ErrorKind → Kind
kind_of_error NotFound = kind.NotFound
kind_of_error StorageFull = kind.Full
kind_of_error QuotaExceeded = kind.Full
kind_of_error PermissionDenied = kind.Denied
kind_of_error ReadOnlyFilesystem = kind.Denied
kind_of_error _ = kind.Device

-- the kind of a refusal with this last number; the program's own memory error has none
abbrev pub kind_of_last : Option ℕ → Kind
kind_of_last None = kind.Memory
kind_of_last (Some n) = kind_of_number n

-- the kind of a refusal whose number gives this one, where a call of the system may have failed so
abbrev pub kind_by : Kind → Option ErrorKind → Kind
kind_by kind.Device (Some error) = kind_of_error error
kind_by k error = k

-- the kind of a refusal with this last number and this reason of the system
abbrev pub kind_at : Option ℕ → Option Reason → Kind
kind_at last None = kind_of_last last
kind_at last (Some reason) = kind_by (kind_of_last last) (Some reason.kind)

-- ---- the system's reason

-- a reason is of the kind of the first error of the system at a place
abbrev pub IsReasonAt : Reason → Side → Type 0
IsReasonAt reason side = IsSomeAnd (option_copied side.failure) (λ failure. reason.kind ≡ error_kind failure.error)

-- a reason is of the kind of the first error of the system at one of the places of a command line
abbrev pub IsReasonOf : Sides → Reason → Type 0
IsReasonOf sides reason = IsSomeAnd sides.read (IsReasonAt reason) ⊎ IsSomeAnd sides.written (IsReasonAt reason)

-- a refusal of a command with these places and this last number, which has the text of the system's
-- reason if there is one, is of this kind
abbrev pub IsKind : Sides → Option ℕ → Option (String Global) → Kind → Type 0
IsKind sides last os k = (reason : Option Reason) × IfSome reason (IsReasonOf sides)
    × (os ≡ option_map (λ (r : Reason). r.text) reason) × (k ≡ kind_at last reason)
