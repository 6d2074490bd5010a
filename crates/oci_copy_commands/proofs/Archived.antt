-- Lemmas about the archive of a copy.
use Rattle.std.proofs.Common.{◌≡◌, ◌≢◌, ℕ, true, inl, inr, List, [], ◌∷◌, Option, None, Some, refl, sym, ap, ◌∙◌}
use Rattle.std.specs.Prelude.{◌⊎◌, Contains}
use Rattle.std.specs.BTreeMap.{get_by_text}
use Rattle.std.specs.Io.KnownBytes.{Appends, Keeps}
use Rattle.std.specs.List.{All}
use Rattle.std.proofs.lemmas.Bool.{true≢false}
use Rattle.std.specs.Map.{keys_of, values_of}
use Rattle.std.proofs.lemmas.List.Elements.{All-head, All-nil, All-tail, All-weaker}
use Rattle.oci_command_line.specs.declared.changing.CopyWords.{CopyWords}
use Rattle.oci_copy.specs.Planned.{IsPlanOf}
use Rattle.oci_copy.specs.declared.options.Options.{Options}
use Rattle.oci_export.specs.Archive.{Item}
use Rattle.oci_export.specs.Export.{IsExport, IsListed}
use Rattle.oci_dir.specs.Device.{Device}
use Rattle.oci_dir.specs.declared.mem_dir.MemDir.{MemDir}
use Rattle.oci_layout_store.specs.Index.{HasLayoutFile}
use Rattle.oci_layout_store.specs.Layout.{no_index, LayoutState}
use Rattle.oci_manifest.specs.Descriptor.{Descriptor}
use Rattle.oci_plan.specs.Plan.{Planned}
use Rattle.oci_store.specs.Graph.{Node}
use Rattle.oci_store.specs.Keyed.{has_key, HasAll}
use Rattle.oci_store.specs.State.{State}
use Rattle.oci_store.specs.Tags.{set_tag, Tags, AreNames}
use Rattle.oci_store.proofs.References.{AreNames-set}
use Rattle.oci_copy_commands.specs.Archived.{IsArchiveAnswer, IsArchived, IsIndexOfRoots, IsOutlined, IsSavedOutline}
use Rattle.oci_copy_commands.specs.Behind.{IsLeftBehind}
use Rattle.oci_copy_commands.specs.Run.{options_of, store_of, IsSelectedIn}
use Rattle.oci_selection.specs.Selected.{set_tags, Selected}
use Rattle.oci_copy_commands.specs.declared.answer.CopyAnswer.{CopyAnswer}
use Rattle.oci_copy_commands.specs.declared.behind.LeftBehind.{LeftBehind}
use Rattle.oci_selection.proofs.Selections.{among_held}

-- where the planned keys of a copy into an empty layout are held, its roots are
pub roots_held : (source opening : State) (options : Options) (roots : List Descriptor) (p : Planned) (graph : List Node)
    → opening.nodes ≡ [] → IsPlanOf source options opening roots p → HasAll graph p.keys → HasAll graph roots
roots_held source opening options roots p graph none plan held =
    among_held graph p.keys roots held
    (All-weaker (λ (k : Descriptor). (has_key opening.nodes k ≡ true) ⊎ Contains p.keys k) (λ (k : Descriptor). Contains p.keys k) among roots plan.roots_held)
  where
    among : (k : Descriptor) → (has_key opening.nodes k ≡ true) ⊎ Contains p.keys k → Contains p.keys k
    among k (inl there) = absurd (true≢false (sym there ∙ ap (λ (nodes : List Node). has_key nodes k) none))
    among k (inr planned) = planned

-- a layout in memory that holds exactly the roots has their index, once it is saved with what is
-- selected
pub is_index : {M : Type 0} (memory : M → Device) (source : State) (selected : Selected) (held index : LayoutState M)
    → HasAll held.graph selected.0 → All (IsListed source selected.0) held.graph → held.tags ≡ [] → held.opened ≡ no_index
    → (memory held.dir).is_honest → HasLayoutFile (memory held.dir).file → IsSavedOutline memory selected held index
    → IsIndexOfRoots memory source selected index
is_index memory source selected held index all listed tags opened honest version saved =
    record {
      roots = record { held = rw saved.graph all; listed = rw saved.graph listed };
      of_roots = saved.of_roots;
      tagged = rw tags at saved.tagged;
      brought = rw opened at saved.brought;
      saved = saved.saved honest;
      version = saved.version honest version;
    }

-- tags that are set have names if those before have, and the new ones are of held keys and not empty
names_set : (graph : List Node) (tags more : Tags) → AreNames graph tags → All (λ (name : List ℕ). name ≢ []) (keys_of more) → HasAll graph (values_of more)
    → AreNames graph (set_tags tags more)
names_set graph tags [] names named held = names
names_set graph tags (t ∷ more) names named held =
    names_set graph (set_tag tags t.0 t.1) more
    (AreNames-set graph tags t.0 t.1 names (All-head (λ (name : List ℕ). name ≢ []) t.0 (keys_of more) named) (All-head (λ (k : Descriptor). has_key graph k ≡ true) t.1 (values_of more) held))
    (All-tail (λ (name : List ℕ). name ≢ []) t.0 (keys_of more) named) (All-tail (λ (k : Descriptor). has_key graph k ≡ true) t.1 (values_of more) held)

-- the tags of the index of the roots have names in a graph that holds the roots
pub index_names : {M : Type 0} (memory : M → Device) (source : State) (selected : Selected) (index : LayoutState M) (graph : List Node)
    → IsIndexOfRoots memory source selected index → HasAll graph selected.0 → AreNames graph index.tags
index_names memory source selected index graph is held =
    rw is.tagged (names_set graph [] selected.1
    (record { named = All-nil (λ (name : List ℕ). name ≢ []); held = All-nil (λ (k : Descriptor). has_key graph k ≡ true) })
    is.of_roots.named (among_held graph selected.0 (values_of selected.1) held is.of_roots.rooted))

-- what was exported of such a layout is the archive that the words ask for
pub is_archived : {S M : Type 0} (from : S → Device) (memory : M → Device) (words : CopyWords) (source_dir : S) (source : LayoutState S)
    (selected : Selected) (plan : Planned) (outline : LayoutState M) (items : List Item) (behind : LeftBehind) (answer : CopyAnswer)
    → IsSelectedIn from words source_dir source selected → IsOutlined from memory (options_of words) source selected plan outline
    → (memory outline.dir).is_honest
    → IsExport (store_of from source) (memory outline.dir) outline.graph items → IsLeftBehind from memory words source selected.0 outline behind → IsArchiveAnswer selected plan behind answer
    → IsArchived from memory words source_dir items answer
is_archived from memory words source_dir source selected plan outline items behind answer chosen outlined honest exported left answers =
    let index = outlined.index in
    record {
      source = source;
      selected = selected;
      plan = plan;
      outline = outline;
      chosen = chosen;
      outlined = outlined;
      exported = exported;
      files = exported.files honest (rw outlined.dir outlined.entered.version) index.graph index.tags index.opened (rw outlined.dir outlined.entered.saved);
      behind = behind;
      left = left;
      answers = answers;
    }

-- an empty directory in memory has no files
pub no_files : (dir : MemDir) → dir.files.entries ≡ [] → (path : List ℕ) → get_by_text dir.files path ≡ None
no_files dir none path = rw none refl

-- what is kept after it was appended was appended
pub Appends-kept : (old mid new : Option (List ℕ)) (bytes : List ℕ) → Appends old mid bytes → Keeps mid new → Appends old new bytes
Appends-kept None mid new bytes added kept = tt
Appends-kept (Some x) None new bytes added kept = absurd added
Appends-kept (Some x) (Some y) None bytes added kept = absurd kept
Appends-kept (Some x) (Some y) (Some z) bytes added kept = kept ∙ added
