-- What `cat` writes, and why it is refused.
use Rattle.std.specs.Prelude.{◌≡◌, ◌≢◌, ◌⊎◌, ◌<◌, ℕ, Bool, true, false, List, Option}
use Rattle.std.specs.Io.KnownBytes.{Appends, Keeps}
use Rattle.oci_command_line.specs.declared.request.Query.{Query}
use Rattle.oci_command_line.specs.declared.request.Query.TheVariants as query
use Rattle.oci_manifest.specs.Descriptor.{Descriptor}
use Rattle.oci_store.specs.Content.{Matches}
use Rattle.oci_store.specs.Graph.{Node}
use Rattle.oci_store.specs.Keyed.{has_key}
use Rattle.oci_store.specs.Tags.{Tags}
use Rattle.oci_store.specs.declared.fault.FetchFault.{FetchFault}
use Rattle.oci_store.specs.declared.fault.FetchFault.TheVariants as fetch
use Rattle.oci_layout_store.specs.Blobs.{blob_path, IsNotOf}
use Rattle.oci_dir.specs.Device.{Device}
use Rattle.oci_layout_store.specs.Layout.{LayoutState}
use Rattle.oci_prune_fault.specs.declared.fault.PruneFault.TheVariants as prune
use Rattle.oci_program.specs.declared.fault.ProgramFault.{ProgramFault}
use Rattle.oci_program.specs.declared.fault.ProgramFault.TheVariants as fault
use Rattle.oci_query_commands.specs.Named.{IsNamed, IsNamedFault}

-- whether the command is `cat`
abbrev pub is_cat : Query → Bool
is_cat (query.Cat reference platform) = true
is_cat other = false

-- exactly bytes that match a key were appended
abbrev pub WritesKey : Descriptor → Option (List ℕ) → Option (List ℕ) → Type 0
WritesKey k old new = (bytes : List ℕ) × Matches k bytes × Appends old new bytes

-- exactly bytes were appended that match the key which a reference names
abbrev pub WritesNamed : Device → List Node → Tags → List ℕ → Option (List ℕ) → Option (List ℕ) → Option (List ℕ) → Type 0
WritesNamed dir graph tags reference platform old new = (k : Descriptor) × IsNamed dir graph tags reference platform k × WritesKey k old new

-- ---- refusals

-- a fault of the output: what was written before it stays
abbrev pub IsOutputFault : ProgramFault → Type 0
IsOutputFault e = (e ≡ fault.Output) ⊎ (e ≡ fault.Memory)

-- the greatest size of a blob that is checked before its first byte is written: 4 MiB
abbrev pub most_checked_first : ℕ
most_checked_first = 4194304

-- what a refusal leaves of the output while a key's bytes were to be written: it is as before, unless
-- the output failed or the blob is too large to be checked first
abbrev pub LeavesOutput : Descriptor → Option (List ℕ) → Option (List ℕ) → ProgramFault → Type 0
LeavesOutput k old new e = Keeps old new ⊎ IsOutputFault e ⊎ (most_checked_first < k.size)

-- what a refusal of `cat` leaves of the output: it is as before, or the reference names a key, and the
-- output failed or the blob is too large to be checked first
abbrev pub LeavesOutputOf : Device → List Node → Tags → List ℕ → Option (List ℕ) → Option (List ℕ) → Option (List ℕ) → ProgramFault → Type 0
LeavesOutputOf dir graph tags reference platform old new e = Keeps old new ⊎ ((k : Descriptor) × IsNamed dir graph tags reference platform k × LeavesOutput k old new e)

-- why a read of a key's file failed, or the file was found wrong
abbrev pub IsBlobFault : Device → List Node → Descriptor → FetchFault → Type 0
IsBlobFault dir graph k fetch.NotFound = has_key graph k ≡ false
IsBlobFault dir graph k fetch.Corrupt = dir.is_honest → IsNotOf k (dir.file (blob_path k.digest))
IsBlobFault dir graph k fetch.Device = dir.fails_reads ≡ true
IsBlobFault dir graph k fetch.Memory = Unit {0}

-- why the bytes of a key were not written: its file was not read or is wrong, or the output failed
abbrev pub IsWriteFault : Device → List Node → Descriptor → ProgramFault → Type 0
IsWriteFault dir graph k (fault.Source (prune.Fetch named e)) = (named ≡ k) × (e ≢ fetch.Memory) × IsBlobFault dir graph k e
IsWriteFault dir graph k fault.Output = Unit {0}
IsWriteFault dir graph k fault.Memory = Unit {0}
IsWriteFault dir graph k other = ⊥

-- why `cat` is refused: the reference names no key, or the bytes of the key were not written
abbrev pub IsCatFault : {D : Type 0} → Device → LayoutState D → List ℕ → Option (List ℕ) → ProgramFault → Type 0
IsCatFault dir layout reference platform e = IsNamedFault dir layout reference platform e
    ⊎ ((k : Descriptor) × IsNamed dir layout.graph layout.tags reference platform k × IsWriteFault dir layout.graph k e)
