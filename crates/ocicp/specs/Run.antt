-- What a run does with its command line, and the status that it ends with.
use Rattle.std.specs.Prelude.{◌≡◌, ◌⊎◌, ℕ, Bool, true, false, List, [], ◌∷◌, ◌++◌, codes, ⊤, string_bytes, Option, Some}
use Rattle.std.specs.Borrow.{Bor}
use Rattle.std.specs.Io.KnownBytes.{Appends}
use Rattle.oci_command_line.specs.declared.changing.CopyWords.{CopyWords}
use Rattle.oci_command_line.specs.declared.changing.PruneWords.{PruneWords}
use Rattle.oci_command_line.specs.declared.changing.RepairWords.{RepairWords}
use Rattle.oci_command_line.specs.declared.changing.TagWords.{TagWords}
use Rattle.oci_command_line.specs.declared.changing.UntagWords.{UntagWords}
use Rattle.oci_command_line.specs.declared.memory.MemWords.{MemWords}
use Rattle.oci_command_line.specs.declared.request.CommandLineFault.{CommandLineFault}
use Rattle.oci_command_line.specs.declared.request.CommandLineFault.TheVariants as unparsed
use Rattle.oci_command_line.specs.declared.request.Query.{Query}
use Rattle.oci_command_line.specs.declared.request.Request.{Request}
use Rattle.oci_command_line.specs.declared.request.Request.TheVariants as request
use Rattle.oci_copy.specs.declared.report.Report.{Report}
use Rattle.oci_copy_commands.specs.Archived.{IsFileRunOf, IsOutputRunOf}
use Rattle.oci_tag_commands.specs.Mem.{mem_text, IsMemRun}
use Rattle.oci_copy_commands.specs.Run.{IsRunOf}
use Rattle.oci_tag_commands.specs.Tagged.{tagged_line, IsTagRun}
use Rattle.oci_dir.specs.Device.{Device}
use Rattle.oci_folder.specs.Folder.{folder}
use Rattle.oci_folder.specs.Place.{IsFileAt}
use Rattle.oci_manifest.specs.Descriptor.{Descriptor}
use Rattle.oci_program.specs.declared.answer.Form.{Form}
use Rattle.oci_program.specs.declared.answer.Form.TheVariants as form
use Rattle.oci_program.specs.declared.outcome.Outcome.{Outcome}
use Rattle.oci_prune_commands.specs.PrunedLayout.{IsDryPrune, IsPruneRun}
use Rattle.oci_prune_commands.specs.PruneText.{full_text}
use Rattle.oci_prune_commands.specs.declared.answer.FullAnswer.{FullAnswer}
use Rattle.oci_prune_commands.specs.Untagged.{belonged_lines, untagged_lines, IsUntagRun}
use Rattle.oci_repair.specs.declared.source.RepairSource.{RepairSource}
use Rattle.oci_repair.specs.declared.source.RepairSource.TheVariants as source
use Rattle.oci_repair_commands.specs.Answered.{repair_text, IsOutcome}
use Rattle.oci_repair_commands.specs.Repaired.{IsDryRepair, IsRepairRun}
use Rattle.oci_repair_commands.specs.declared.answer.RepairAnswer.{RepairAnswer}
use Rattle.ocicp.specs.declared.place.Place.{Place}
use Rattle.ocicp.specs.declared.place.Place.TheVariants as place
use Rattle.oci_query_commands.specs.Answered.{is_of_all, IsReadable}
use Rattle.oci_query_commands.specs.Printed.{PrintsAnswerOf}
use Rattle.oci_query_commands.specs.Verified.{verified_reference, IsFaulty, IsFaultyVerify, IsGoodVerify, IsVerified, IsVerifiedBelow}
use Rattle.oci_query_commands.specs.Written.{is_cat}

-- ---- where a command works

-- a path is not `-`, at which a command reads an archive from the standard input
abbrev pub IsNoInput : List ℕ → Type 0
IsNoInput path = path ≡ codes "-" → ⊥

-- a place was opened at a path: a folder is the one at the path, which is not `-`
abbrev pub IsPlaceAt : {R F D : Type 0} → List ℕ → Place R F D → Type 0
IsPlaceAt path (place.Folder dir) = (dir ≡ (path, 0)) × IsNoInput path
IsPlaceAt path (place.Archive dir) = ⊤

-- a source of a repair was opened at a path: a folder is the one at the path, which is not `-`
abbrev pub IsSourceAt : {A : Type 0} → List ℕ → RepairSource (List ℕ × ℕ) A → Type 0
IsSourceAt path (source.Folder dir) = (dir ≡ (path, 0)) × IsNoInput path
IsSourceAt path (source.Archive dir) = ⊤

-- one was opened at each of these paths, in their order
abbrev pub AreSourcesAt : {A : Type 0} → List (Bor (List ℕ)) → List (RepairSource (List ℕ × ℕ) A) → Type 0
AreSourcesAt [] [] = ⊤
AreSourcesAt [] (s ∷ sources) = ⊥
AreSourcesAt (p ∷ paths) [] = ⊥
AreSourcesAt (p ∷ paths) (s ∷ sources) = IsSourceAt p.now s × AreSourcesAt paths sources

-- ---- the form in which it prints

abbrev pub form_of : Bool → Form
form_of false = form.Lines
form_of true = form.Json

-- ---- what a command did, and what it appended to the output in a form

-- the items of these words were pushed into a store in memory, and copied from the last one
abbrev pub IsMemDone : MemWords → Form → Option (List ℕ) → Option (List ℕ) → Type 0
IsMemDone words printed old new = (blobs : List (Bor Descriptor)) × (report : Report) × IsMemRun words blobs report × (printed ≡ form.Lines → Appends old new (mem_text blobs report))

-- the layout in the folder of these words was opened, and left with their tag on what their reference
-- resolves to
abbrev pub IsTagDone : TagWords → Form → Option (List ℕ) → Option (List ℕ) → Type 0
IsTagDone words printed old new = (key : Descriptor) × IsTagRun folder (words.folder.now, 0) words.reference.now words.tag.now key
    × (printed ≡ form.Lines → Appends old new (tagged_line key))

-- the layout in the folder of these words was opened, and left without their tag and what belonged to it alone
abbrev pub IsUntagDone : UntagWords → Form → Option (List ℕ) → Option (List ℕ) → Type 0
IsUntagDone words printed old new = (key : Option Descriptor) × (keys : List (Option Descriptor)) × (belonged : List Descriptor) × IsUntagRun folder (words.folder.now, 0) words.tag.now key keys belonged
    × (printed ≡ form.Lines → Appends old new (untagged_lines keys ++ belonged_lines belonged))

-- the layout in the folder of these words was opened, and pruned as they ask for, or with `--dry-run`
-- that prune was planned
pub record IsPruneDone (words : PruneWords) (printed : Form) (old new : Option (List ℕ)) : Type 0 where
  pub pruned : words.is_dry ≡ false → (answer : FullAnswer) × IsPruneRun folder (words.folder.now, 0) words answer × (printed ≡ form.Lines → Appends old new (full_text answer))
  pub planned : words.is_dry ≡ true → (answer : FullAnswer) × IsDryPrune folder (words.folder.now, 0) words answer × (printed ≡ form.Lines → Appends old new (full_text answer))

-- The layout in the folder of these words was opened, and repaired from the sources at their paths, or
-- with `--dry-run` that repair was planned. `archive` gives the meaning of an archive. The outcome is good
-- exactly if nothing is missing.
pub record IsRepairDone {A : Type 0} (archive : A → Device) (words : RepairWords) (printed : Form) (old new : Option (List ℕ)) (outcome : Outcome) : Type 0 where
  pub sources : List (RepairSource (List ℕ × ℕ) A)
  pub opened : AreSourcesAt words.sources.items sources
  pub repaired : words.is_dry ≡ false → (answer : RepairAnswer) × IsRepairRun folder folder archive (words.folder.now, 0) sources answer × IsOutcome answer outcome × (printed ≡ form.Lines → Appends old new (repair_text answer))
  pub planned : words.is_dry ≡ true → (answer : RepairAnswer) × IsDryRepair folder folder archive (words.folder.now, 0) sources answer × IsOutcome answer outcome × (printed ≡ form.Lines → Appends old new (repair_text answer))

-- The copy that these words ask for was made, or with `--dry-run` planned, into the folder at their
-- destination, from the folder at their source, which is not `-`, or from an archive. `archive` and
-- `memory` give the meaning of an archive, and of an empty layout in memory.
abbrev pub IsCopyDone : {A M : Type 0} → (A → Device) → (M → Device) → CopyWords → Form → Option (List ℕ) → Option (List ℕ) → Type 0
IsCopyDone {A} archive memory words printed old new = (IsNoInput words.source.now × IsRunOf folder folder memory words (words.source.now, 0) (words.destination.now, 0) printed old new)
    ⊎ ((dir : A) × IsRunOf archive folder memory words dir (words.destination.now, 0) printed old new)

-- The archive that these words ask for was written into the file at their destination, from the folder at
-- their source, which is not `-`, or from an archive, or with `--dry-run` that copy was planned.
abbrev pub IsFileDone : {A M : Type 0} → (A → Device) → (M → Device) → CopyWords → Form → Option (List ℕ) → Option (List ℕ) → Type 0
IsFileDone {A} archive memory words printed old new = (dir : List ℕ) × (name : List ℕ) × IsFileAt words.destination.now dir name
    × ((IsNoInput words.source.now × IsFileRunOf folder memory folder words (words.source.now, 0) (dir, 0) name printed old new)
    ⊎ ((source : A) × IsFileRunOf archive memory folder words source (dir, 0) name printed old new))

-- the same, where the archive was appended to the output in each form
abbrev pub IsOutputDone : {A M : Type 0} → (A → Device) → (M → Device) → CopyWords → Form → Option (List ℕ) → Option (List ℕ) → Type 0
IsOutputDone {A} archive memory words printed old new = (IsNoInput words.source.now × IsOutputRunOf folder memory words (words.source.now, 0) printed old new)
    ⊎ ((source : A) × IsOutputRunOf archive memory words source printed old new)

-- the file `-` is the output
pub record IsArchiveDone {A M : Type 0} (archive : A → Device) (memory : M → Device) (words : CopyWords) (printed : Form) (old new : Option (List ℕ)) : Type 0 where
  pub output : words.destination.now ≡ codes "-" → IsOutputDone archive memory words printed old new
  pub file : (words.destination.now ≡ codes "-" → ⊥) → IsFileDone archive memory words printed old new

-- A query of the layout in a directory ended so. A good `verify` found nothing wrong with it, or with
-- what its reference reaches, and a faulty one something. `tags`, `predecessors`, and `tree` with
-- referrers left nothing out. As lines, all but `tree` printed exactly their answer, and `cat` wrote its
-- bytes in each form.
pub record IsAnswered (dir : Device) (query : Query) (printed : Form) (old new : Option (List ℕ)) (outcome : Outcome) : Type 0 where
  pub verified : IsGoodVerify query outcome → dir.is_honest → IsVerified dir
  pub faulty : IsFaultyVerify query outcome → dir.is_honest → IsFaulty dir
  pub below : (reference : List ℕ) → verified_reference query ≡ Some reference → dir.is_honest → IsVerifiedBelow dir reference outcome
  pub whole : is_of_all query ≡ true → dir.is_honest → IsReadable dir
  pub shown : printed ≡ form.Lines → dir.is_honest → PrintsAnswerOf dir query old new
  pub written : is_cat query ≡ true → dir.is_honest → PrintsAnswerOf dir query old new

-- it ended so for the folder at a path, which is not `-`, or for an archive
abbrev pub IsQueryDone : {A : Type 0} → (A → Device) → List ℕ → Query → Form → Option (List ℕ) → Option (List ℕ) → Outcome → Type 0
IsQueryDone {A} archive path query printed old new outcome = (IsNoInput path × IsAnswered (folder (path, 0)) query printed old new outcome) ⊎ ((dir : A) × IsAnswered (archive dir) query printed old new outcome)

-- ---- by the request

-- the command of a request was done, with this outcome, and appended its answer to the output; of an
-- explanation nothing is said
abbrev pub IsDone : {A M : Type 0} → (A → Device) → (M → Device) → Request → Form → Option (List ℕ) → Option (List ℕ) → Outcome → Type 0
IsDone archive memory (request.Text text) printed old new outcome = Appends old new (string_bytes text)
IsDone archive memory (request.Mem words) printed old new outcome = IsMemDone words printed old new
IsDone archive memory (request.Copy words) printed old new outcome = IsCopyDone archive memory words printed old new
IsDone archive memory (request.Archive words) printed old new outcome = IsArchiveDone archive memory words printed old new
IsDone archive memory (request.Tag words) printed old new outcome = IsTagDone words printed old new
IsDone archive memory (request.Untag words) printed old new outcome = IsUntagDone words printed old new
IsDone archive memory (request.Prune words) printed old new outcome = IsPruneDone words printed old new
IsDone archive memory (request.Repair words) printed old new outcome = IsRepairDone archive words printed old new outcome
IsDone archive memory (request.Query path query) printed old new outcome = IsQueryDone archive path.now query printed old new outcome
IsDone archive memory other printed old new outcome = ⊤

-- ---- the status

-- the status of a run whose command line was not parsed: 2 if it is invalid, 3 if memory ran out
abbrev pub status_of_unparsed : CommandLineFault → ℕ
status_of_unparsed (unparsed.Usage text) = 2
status_of_unparsed unparsed.Memory = 3

-- the status of a run whose command line is valid: 0 if its command was done, 1 if it was refused or
-- found something wrong, 3 if memory ran out
abbrev pub IsCommandStatus : ℕ → Type 0
IsCommandStatus status = (status ≡ 0) ⊎ ((status ≡ 1) ⊎ (status ≡ 3))
