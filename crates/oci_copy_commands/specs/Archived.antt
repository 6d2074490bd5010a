-- What `copy --archive` did, in terms of the words of its command line.
use Rattle.std.specs.Prelude.{◌≡◌, ℕ, ⊤, true, false, List, [], length, map, string_bytes, Option, None}
use Rattle.std.specs.Io.KnownBytes.{Appends}
use Rattle.std.specs.List.{All}
use Rattle.oci_command_line.specs.declared.changing.CopyWords.{CopyWords}
use Rattle.oci_copy.specs.Planned.{IsPlanOf}
use Rattle.oci_copy.specs.declared.fault.CopyFault.TheVariants as copy
use Rattle.oci_copy.specs.declared.options.Options.{Options}
use Rattle.oci_export.specs.Archive.{archive_of, Item}
use Rattle.oci_export.specs.Export.{IsExport, IsListed, IsNewFile}
use Rattle.oci_export.specs.ReadBack.{file_in}
use Rattle.oci_export.specs.declared.fault.ExportFault.{ExportFault}
use Rattle.oci_export.specs.declared.fault.ExportFault.TheVariants as export
use Rattle.oci_layout_store.specs.Blobs.{stored}
use Rattle.oci_layout_store.specs.Brought.{Brings}
use Rattle.oci_dir.specs.Device.{Device}
use Rattle.oci_layout_store.specs.Entries.{entry_of}
use Rattle.oci_layout_store.specs.Files.{HasFiles}
use Rattle.oci_layout_store.specs.Index.{HasIndex, HasLayoutFile}
use Rattle.oci_layout_store.specs.Layout.{no_index, LayoutState}
use Rattle.oci_layout_store.specs.declared.fault.LayoutFault.TheVariants as layout
use Rattle.oci_dir.specs.declared.mem_dir.MemDir.{MemDir}
use Rattle.oci_manifest.specs.Descriptor.{Descriptor}
use Rattle.oci_plan.specs.Plan.{Planned}
use Rattle.oci_store.specs.Graph.{Node}
use Rattle.oci_store.specs.Keyed.{HasAll}
use Rattle.oci_store.specs.State.{State}
use Rattle.oci_program.specs.declared.answer.Form.{Form}
use Rattle.oci_program.specs.declared.answer.Form.TheVariants as form
use Rattle.oci_program.specs.declared.fault.ProgramFault.{ProgramFault}
use Rattle.oci_program.specs.declared.fault.ProgramFault.TheVariants as program
use Rattle.oci_copy_commands.specs.Behind.{IsLeftBehind}
use Rattle.oci_copy_commands.specs.Printed.{copy_text, plan_text, tags_of}
use Rattle.oci_copy_commands.specs.Run.{options_of, store_of, IsAnsweredDryRun, IsSelectedIn}
use Rattle.oci_selection.specs.Selected.{set_tags, AreOfRoots, Selected}
use Rattle.oci_copy_commands.specs.declared.answer.CopyAnswer.{CopyAnswer}
use Rattle.oci_copy_commands.specs.declared.behind.LeftBehind.{LeftBehind}
use Rattle.oci_copy_commands.specs.declared.dry_run.PlanAnswer.{PlanAnswer}

-- a directory in memory
abbrev pub MemoryDir : Type 0
MemoryDir = MemDir

-- a directory has no files
abbrev pub HasNoFiles : Device → Type 0
HasNoFiles dir = (path : List ℕ) → dir.file path ≡ None

-- the selected tags, which are of roots, were set, the selected entries were brought, and the layout was
-- saved
pub record IsSavedOutline {M : Type 0} (memory : M → Device) (selected : Selected) (old new : LayoutState M) : Type 0 where
  pub of_roots : AreOfRoots selected.0 selected.1
  pub graph : new.graph ≡ old.graph
  pub tagged : new.tags ≡ set_tags old.tags selected.1
  pub brought : Brings (map entry_of selected.2) new.tags old.opened new.opened
  pub saved : (memory old.dir).is_honest → HasIndex (memory new.dir).file new.graph new.tags new.opened
  pub version : (memory old.dir).is_honest → HasLayoutFile (memory old.dir).file → HasLayoutFile (memory new.dir).file

-- a graph is of exactly these keys, each with what the source says that it lists
pub record IsGraphOf (source : State) (keys : List Descriptor) (graph : List Node) : Type 0 where
  pub held : HasAll graph keys
  pub listed : All (IsListed source keys) graph

-- A layout in memory has exactly the roots, and the selected tags and entries. It is saved: so its index
-- has an entry for what was asked for, and none for a manifest that only another one brings.
pub record IsIndexOfRoots {M : Type 0} (memory : M → Device) (source : State) (selected : Selected) (index : LayoutState M) : Type 0 where
  pub roots : IsGraphOf source selected.0 index.graph
  pub of_roots : AreOfRoots selected.0 selected.1
  pub tagged : index.tags ≡ set_tags [] selected.1
  pub brought : Brings (map entry_of selected.2) index.tags no_index index.opened
  pub saved : HasIndex (memory index.dir).file index.graph index.tags index.opened
  pub version : HasLayoutFile (memory index.dir).file

-- The copy of what is selected into an empty layout was planned, and there is a layout of exactly the
-- planned keys. Its directory has the index of the roots, and no file of a blob. Each planned key is
-- reached from a root, so that index leaves none out.
pub record IsOutlined {S M : Type 0} (from : S → Device) (memory : M → Device) (options : Options) (source : LayoutState S) (selected : Selected) (plan : Planned) (outline : LayoutState M) : Type 0 where
  pub empty : LayoutState M
  pub no_keys : empty.graph ≡ []
  pub no_tags : empty.tags ≡ []
  pub planned : IsPlanOf (store_of from source) options (store_of memory empty) selected.0 plan
  pub graph : IsGraphOf (store_of from source) plan.keys outline.graph
  pub index : LayoutState M
  pub entered : IsIndexOfRoots memory (store_of from source) selected index
  pub dir : outline.dir ≡ index.dir

-- the answer names the selected tags, the number of the planned keys, and what was left behind
pub record IsArchiveAnswer (selected : Selected) (plan : Planned) (stays : LeftBehind) (answer : CopyAnswer) : Type 0 where
  pub copied : tags_of answer.copied.items ≡ selected.1
  pub planned : answer.report.planned ≡ length plan.keys
  pub pushed : answer.report.pushed ≡ length plan.keys
  pub skipped : answer.report.skipped ≡ length plan.skipped
  pub behind : answer.behind ≡ stays

-- Items are what the archive has that a run with these words writes: the blobs of the layout that a copy
-- of what they select into an empty layout makes, and the index of its roots.
pub record IsArchived {S M : Type 0} (from : S → Device) (memory : M → Device) (words : CopyWords) (source_dir : S) (items : List Item) (answer : CopyAnswer) : Type 0 where
  pub source : LayoutState S
  pub selected : Selected
  pub plan : Planned
  pub outline : LayoutState M
  pub chosen : IsSelectedIn from words source_dir source selected
  pub outlined : IsOutlined from memory (options_of words) source selected plan outline
  pub exported : IsExport (store_of from source) (memory outline.dir) outline.graph items
  pub files : HasFiles (file_in items) (stored (file_in items) outline.graph) outlined.index.graph outlined.index.tags outlined.index.opened
  pub behind : LeftBehind
  pub left : IsLeftBehind from memory words source selected.0 outline behind
  pub answers : IsArchiveAnswer selected plan behind answer

-- such an archive was put into a new file of a directory, if that is honest
abbrev pub IsArchivedTo : {S M T : Type 0} → (S → Device) → (M → Device) → (T → Device) → CopyWords → S → T → List ℕ → CopyAnswer → Type 0
IsArchivedTo {T = T} from memory to words source_dir dir name answer = (left : T) × ((to dir).is_honest → (items : List Item)
    × IsArchived from memory words source_dir items answer × IsNewFile (to dir) (to left) name (archive_of items))

-- A run with these words wrote the archive that they ask for into a new file of a directory, or with
-- `--dry-run` planned that copy. As lines, the text of its answer was appended.
pub record IsFileRunOf {S M T : Type 0} (from : S → Device) (memory : M → Device) (to : T → Device) (words : CopyWords) (source_dir : S) (dir : T) (name : List ℕ) (printed : Form) (old new : Option (List ℕ)) : Type 0 where
  pub archived : words.is_dry ≡ false → (answer : CopyAnswer) × IsArchivedTo from memory to words source_dir dir name answer × (printed ≡ form.Lines → Appends old new (copy_text answer))
  pub planned : words.is_dry ≡ true → (answer : PlanAnswer) × (empty : M) × HasNoFiles (memory empty) × IsAnsweredDryRun from memory memory words source_dir empty answer × (printed ≡ form.Lines → Appends old new (plan_text answer))

-- A run with these words appended the archive that they ask for, or with `--dry-run` planned that copy.
pub record IsOutputRunOf {S M : Type 0} (from : S → Device) (memory : M → Device) (words : CopyWords) (source_dir : S) (printed : Form) (old new : Option (List ℕ)) : Type 0 where
  pub archived : words.is_dry ≡ false → (answer : CopyAnswer) × (items : List Item) × IsArchived from memory words source_dir items answer × Appends old new (archive_of items)
  pub planned : words.is_dry ≡ true → (answer : PlanAnswer) × (empty : M) × HasNoFiles (memory empty) × IsAnsweredDryRun from memory memory words source_dir empty answer × (printed ≡ form.Lines → Appends old new (plan_text answer))

-- ---- refusals

-- the refusal of an archive that is not written to an output
abbrev pub refusal_of : ExportFault → ProgramFault
refusal_of (export.Layout e) = program.Destination e
refusal_of (export.Fetch k e) = program.Copy (copy.Fetch k e)
refusal_of export.Output = program.Output
refusal_of export.Exists = program.Output
refusal_of export.Memory = program.Memory

-- something is at the path of an archive
abbrev pub IsNotWritable : List ℕ → ProgramFault → Type 0
IsNotWritable path (program.NotWritable named) = string_bytes named ≡ path
IsNotWritable path program.Memory = ⊤
IsNotWritable path other = ⊥

-- the refusal of an archive that is not written into the file at this path
abbrev pub IsFileRefusal : List ℕ → ExportFault → ProgramFault → Type 0
IsFileRefusal path export.Output refusal = refusal ≡ program.Destination layout.Device
IsFileRefusal path export.Exists refusal = IsNotWritable path refusal
IsFileRefusal path fault refusal = refusal ≡ refusal_of fault
