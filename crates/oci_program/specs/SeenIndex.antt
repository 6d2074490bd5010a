-- An index that another program may have written since a command read it.
use Rattle.std.specs.Prelude.{◌≡◌, ◌≢◌, true, ℕ, List, Option}
use Rattle.oci_dir.specs.Device.{Device}
use Rattle.oci_layout_store.specs.Index.{index_file}
use Rattle.oci_layout_store.specs.declared.fault.LayoutFault.TheVariants as layout
use Rattle.oci_program.specs.declared.fault.ProgramFault.{ProgramFault}
use Rattle.oci_program.specs.declared.fault.ProgramFault.TheVariants as program

-- why `index.json` was not read
abbrev pub IsUnreadIndex : Device → ProgramFault → Type 0
IsUnreadIndex dir (program.Destination layout.Device) = dir.fails_reads ≡ true
IsUnreadIndex dir (program.Destination layout.Memory) = Unit {0}
IsUnreadIndex dir e = ⊥

-- `index.json` is not what it was when it was seen
abbrev pub IsOtherIndex : Device → Option (List ℕ) → Type 0
IsOtherIndex dir seen = dir.is_honest → dir.file index_file ≢ seen

-- why a directory is refused whose `index.json` was seen so: it is another one now, or it was not read
abbrev pub IsSeenFault : Device → Option (List ℕ) → ProgramFault → Type 0
IsSeenFault dir seen program.IndexChanged = IsOtherIndex dir seen
IsSeenFault dir seen e = IsUnreadIndex dir e

-- why a change of a layout is refused: `index.json` is not what it was when it was seen, or for a cause
-- of the change itself
abbrev pub OrOtherIndex : Device → Option (List ℕ) → (ProgramFault → Type 0) → ProgramFault → Type 0
OrOtherIndex dir seen is_refused program.IndexChanged = IsOtherIndex dir seen
OrOtherIndex dir seen is_refused e = is_refused e
