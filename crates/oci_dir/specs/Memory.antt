-- A directory in memory, and its fuse.
use Rattle.std.specs.Prelude.{◌≡◌, ◌↔◌, ◌-◌, ◌/◌, ◌⊎◌, ℕ, List, [], length, take, Option, Some, None, IsSome, option_map, Result, Ok, Err, OnOk, OnErr, String, ⊤, false, refl}
use Rattle.std.specs.declared.alloc.Global.{Global}
use Rattle.std.proofs.Common.{inl}
use Rattle.std.specs.BTreeMap.{BTreeMap, get_by_text}
use Rattle.oci_digest.specs.declared.fault.NoMemory.{NoMemory}
use Rattle.oci_dir.specs.Device.{Device, File, Puts, Same, SameDevice}
use Rattle.oci_dir.specs.declared.fault.DirFault.{DirFault}
use Rattle.oci_dir.specs.declared.fault.DirFault.TheVariants as dir
use Rattle.oci_dir.specs.declared.mem_dir.MemDir.{MemDir}

-- the bytes of the file at each path, if there is one
abbrev pub files_of : BTreeMap (String Global) (List ℕ) → File
files_of files path = get_by_text files path

-- the first half of some bytes, rounded down
abbrev pub half : List ℕ → List ℕ
half bytes = take (length bytes / 2) bytes

-- what a crash may leave of the file at a path: what is there now, what was settled last, or anything
-- if it was put, and not settled since
abbrev pub MayLeave : MemDir → List ℕ → Option (List ℕ) → Type 0
MayLeave d path left = (left ≡ files_of d.files path) ⊎ (left ≡ files_of d.settled path) ⊎ IsSome (files_of d.torn path)

-- a directory in memory is honest, and its reads never fail
abbrev pub device_of : MemDir → Device
device_of d = record {
  file = files_of d.files;
  draft = files_of d.drafts;
  link = None;
  may_leave = MayLeave d;
  is_honest = ⊤;
  stays = λ honest path. inl refl;
  fails_reads = false;
  failures = d.failures;
}

-- a directory without files and drafts that no put failed in, with this fuse
pub record IsNew (d : MemDir) (fuse : Option ℕ) : Type 0 where
  pub empty : d.files.entries ≡ []
  pub drafts : d.drafts.entries ≡ []
  pub fuse_is : d.fuse ≡ fuse
  pub failures : d.failures ≡ 0

-- a draft was left in a directory, by the result
pub record LeavesDraft (old new : Device) (path bytes : List ℕ) (answer : Result Unit NoMemory) : Type 0 where
  -- it is there, and no other draft changed
  pub left : OnOk answer (Puts old.draft new.draft path bytes)
  -- if memory ran out, no draft changed
  pub refused : OnErr answer (Same old.draft new.draft)
  -- whatever the result, no file changed, nor what a crash may leave of one
  pub files : Same old.file new.file
  pub stays : (q : List ℕ) (left : Option (List ℕ)) → new.may_leave q left ↔ old.may_leave q left
  pub device : SameDevice old new

-- a put succeeds only if the fuse, if there is one, still allows it, and then it allows one less; a
-- put that the fuse stops leaves the first half of its bytes; if memory ran out, the fuse is
-- unchanged
abbrev pub Burns : MemDir → MemDir → List ℕ → List ℕ → Result Unit DirFault → Type 0
Burns old new path bytes (Ok u) = (old.fuse ≡ Some 0 → ⊥) × (new.fuse ≡ option_map (λ puts. puts - 1) old.fuse)
Burns old new path bytes (Err dir.Failed) = (old.fuse ≡ Some 0) × (new.fuse ≡ old.fuse) × Puts (files_of old.files) (files_of new.files) path (half bytes)
Burns old new path bytes (Err dir.Memory) = new.fuse ≡ old.fuse

-- a replacement succeeds only if the fuse still allows it, as a put does; one that fails changes no
-- file
abbrev pub BurnsWhole : MemDir → MemDir → Result Unit DirFault → Type 0
BurnsWhole old new (Ok u) = (old.fuse ≡ Some 0 → ⊥) × (new.fuse ≡ option_map (λ puts. puts - 1) old.fuse)
BurnsWhole old new (Err dir.Failed) = (old.fuse ≡ Some 0) × (new.fuse ≡ old.fuse) × Same (files_of old.files) (files_of new.files)
BurnsWhole old new (Err dir.Memory) = (new.fuse ≡ old.fuse) × Same (files_of old.files) (files_of new.files)
