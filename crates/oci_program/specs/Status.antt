-- The status that a run ends with, and the numbers of its fault.
use Rattle.std.specs.Prelude.{◌≡◌, ◌⊎◌, [], ◌∷◌, ℕ, List, Bool, true, false, if◌then◌else◌, Option, Some, None, map}
use Rattle.std.specs.List.{last_or}
use Rattle.std.specs.Option.{option_to_list}
use Rattle.oci_archive.specs.Numbers.{archive_number}
use Rattle.oci_archive.specs.declared.fault.ArchiveFault.TheVariants as archive
use Rattle.oci_copy.specs.Fault.{number_of}
use Rattle.oci_manifest.specs.Fault.{key_number_of}
use Rattle.oci_manifest.specs.Fault.{number_of as manifest_number_of}
use Rattle.oci_plan.specs.Fault.{plan_number_of}
use Rattle.oci_plan.specs.declared.fault.PlanFault.{PlanFault}
use Rattle.oci_plan.specs.declared.fault.PlanFault.TheVariants as plan
use Rattle.oci_prune_fault.specs.Numbers.{prune_number}
use Rattle.oci_prune_fault.specs.declared.fault.PruneFault.{PruneFault}
use Rattle.oci_prune_fault.specs.declared.fault.PruneFault.TheVariants as prune
use Rattle.oci_store.specs.Numbers.{fetch_number, push_number, reference_number}
use Rattle.oci_layout_store.specs.Numbers.{layout_number}
use Rattle.oci_copy.specs.declared.fault.CopyFault.{CopyFault}
use Rattle.oci_copy.specs.declared.fault.CopyFault.TheVariants as copy
use Rattle.oci_layout_store.specs.declared.fault.LayoutFault.{LayoutFault}
use Rattle.oci_layout_store.specs.declared.fault.LayoutFault.TheVariants as layout
use Rattle.oci_store.specs.declared.fault.FetchFault.TheVariants as fetch
use Rattle.oci_store.specs.declared.fault.PushFault.{PushFault}
use Rattle.oci_store.specs.declared.fault.PushFault.TheVariants as push
use Rattle.oci_store.specs.declared.fault.RefFault.TheVariants as reference
use Rattle.oci_verify.specs.Fault.{number_of as verify_number}
use Rattle.oci_verify.specs.declared.fault.VerifyFault.TheVariants as verify
use Rattle.oci_program.specs.declared.answer.Form.{Form}
use Rattle.oci_program.specs.declared.answer.Form.TheVariants as form
use Rattle.oci_program.specs.declared.outcome.Outcome.{Outcome}
use Rattle.oci_program.specs.declared.outcome.Outcome.TheVariants as outcome
use Rattle.oci_program.specs.declared.ending.Ending.{Ending}
use Rattle.oci_program.specs.declared.ending.Ending.TheVariants as ending
use Rattle.oci_program.specs.declared.fault.ProgramFault.{ProgramFault}
use Rattle.oci_program.specs.declared.fault.ProgramFault.TheVariants as fault
use Rattle.oci_program.specs.declared.refusal_document.Entry.{Entry}

-- whether a fault is a memory error, or has one in it
abbrev pub is_memory : ProgramFault → Bool
is_memory (fault.Archive archive.Memory) = true
is_memory (fault.Push push.Memory) = true
is_memory (fault.Copy copy.Memory) = true
is_memory (fault.Layout layout.Memory) = true
is_memory (fault.Destination layout.Memory) = true
is_memory (fault.Prune prune.Memory) = true
is_memory (fault.Prune (prune.Layout layout.Memory)) = true
is_memory (fault.Source prune.Memory) = true
is_memory (fault.Source (prune.Layout layout.Memory)) = true
is_memory (fault.Reference reference.Memory) = true
is_memory (fault.Fetch fetch.Memory) = true
is_memory (fault.Verify verify.Memory) = true
is_memory fault.Memory = true
is_memory e = false

-- the status: 2 for an invalid command line, 3 if out of memory, else 1
abbrev pub status_of : Ending → ℕ
status_of (ending.Usage error) = 2
status_of ending.NotUtf8 = 2
status_of (ending.Fault e) = if is_memory e then 3 else 1

-- the status of a refused run: that of its fault, or 3 if its document is asked for and memory runs out
abbrev pub IsRefusalStatus : Form → ProgramFault → ℕ → Type 0
IsRefusalStatus form.Lines e status = status ≡ status_of (ending.Fault e)
IsRefusalStatus form.Json e status = (status ≡ status_of (ending.Fault e)) ⊎ (status ≡ 3)

-- the status of a run that ended before its command: 2 if its command line is invalid, and otherwise that of its fault
abbrev pub IsEndingStatus : Form → Ending → ℕ → Type 0
IsEndingStatus form (ending.Fault e) status = IsRefusalStatus form e status
IsEndingStatus form other status = status ≡ 2

-- the status of a run that was not refused: 1 if it found something wrong
abbrev pub status_of_done : Outcome → ℕ
status_of_done outcome.Good = 0
status_of_done outcome.Faulty = 1

-- the first number of a fault's text; the program's own memory error has none
abbrev pub program_number : ProgramFault → Option ℕ
program_number (fault.BadItem item) = Some 92
program_number (fault.File path) = Some 93
program_number fault.Output = Some 94
program_number (fault.NotWritable path) = Some 95
program_number (fault.Locked folder) = Some 99
program_number (fault.NoPlatform platform platforms) = Some 107
program_number fault.NoMatch = Some 108
program_number fault.NoIndex = Some 109
program_number fault.IndexChanged = Some 110
program_number (fault.Archive e) = Some (archive_number e)
program_number (fault.Key e) = Some (key_number_of e)
program_number (fault.Push e) = Some (push_number e)
program_number (fault.Copy e) = Some (number_of e)
program_number (fault.Layout e) = Some (layout_number e)
program_number (fault.Destination e) = Some (layout_number e)
program_number (fault.Prune e) = Some (prune_number e)
program_number (fault.Source e) = Some (prune_number e)
program_number (fault.Reference e) = Some (reference_number e)
program_number (fault.Fetch e) = Some (fetch_number e)
program_number (fault.Verify e) = Some (verify_number e)
program_number fault.Memory = None

-- the numbers of a refused push: its own, and that of the manifest's fault if there is one
abbrev pub push_numbers : PushFault → List ℕ
push_numbers (push.BadManifest e) = push_number (push.BadManifest e) ∷ manifest_number_of e ∷ []
push_numbers e = push_number e ∷ []

-- the numbers of a refused plan: its own, and that of the fault in it if there is one
abbrev pub plan_numbers : PlanFault → List ℕ
plan_numbers (plan.Manifest k e) = plan_number_of (plan.Manifest k e) ∷ manifest_number_of e ∷ []
plan_numbers (plan.Fetch k e) = plan_number_of (plan.Fetch k e) ∷ fetch_number e ∷ []
plan_numbers e = plan_number_of e ∷ []

-- the numbers of a refused copy, the outermost first
abbrev pub copy_numbers : CopyFault → List ℕ
copy_numbers (copy.Plan e) = number_of (copy.Plan e) ∷ plan_numbers e
copy_numbers (copy.Push k e) = number_of (copy.Push k e) ∷ push_numbers e
copy_numbers (copy.Reference e) = number_of (copy.Reference e) ∷ reference_number e ∷ []
copy_numbers (copy.Fetch k e) = number_of (copy.Fetch k e) ∷ fetch_number e ∷ []
copy_numbers e = number_of e ∷ []

-- the numbers of a refused layout: its own, and that of the manifest's fault if there is one
abbrev pub layout_numbers : LayoutFault → List ℕ
layout_numbers (layout.BadIndex e) = layout_number (layout.BadIndex e) ∷ manifest_number_of e ∷ []
layout_numbers (layout.BadManifest k e) =
    layout_number (layout.BadManifest k e) ∷ manifest_number_of e ∷ []
layout_numbers e = layout_number e ∷ []

-- the numbers of a refused prune; a refused layout in it has no other number
abbrev pub prune_numbers : PruneFault → List ℕ
prune_numbers (prune.Fetch k e) = prune_number (prune.Fetch k e) ∷ fetch_number e ∷ []
prune_numbers (prune.Layout e) = layout_numbers e
prune_numbers e = prune_number e ∷ []

-- the numbers of a fault's text, the outermost first; the program's own memory error has none
abbrev pub numbers : ProgramFault → List ℕ
numbers (fault.Push e) = push_numbers e
numbers (fault.Copy e) = copy_numbers e
numbers (fault.Layout e) = layout_numbers e
numbers (fault.Destination e) = layout_numbers e
numbers (fault.Prune e) = prune_numbers e
numbers (fault.Source e) = prune_numbers e
numbers e = option_to_list (program_number e)

-- the last number of a fault's text, which is that of its innermost fault
abbrev pub last_number : ProgramFault → Option ℕ
last_number e = last_or None (numbers e)

-- the numbers of the entries of a refusal's document
abbrev pub entry_numbers : List Entry → List ℕ
entry_numbers entries = map (λ e. e.number) entries
