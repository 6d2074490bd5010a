-- What a power cut leaves where a layout is saved or pruned.
use Rattle.std.proofs.Common.{◌≡◌, ◌≢◌, ℕ, ◌<◌, Bool, true, ◌⊎◌, inl, inr, List, [], ◌∷◌, length, get_or, refl, sym, ap, subst, ◌∙◌, arith}
use Rattle.std.specs.Prelude.{Contains}
use Rattle.std.specs.BTreeSet.{BTreeSet, contains}
use Rattle.std.specs.List.{All}
use Rattle.std.specs.Map.{keys_of}
use Rattle.std.proofs.lemmas.List.{take_all}
use Rattle.std.proofs.lemmas.List.Elements.{All-contains, All-contains_itself, All-cons, All-filter, All-head, All-nil, All-tail, All-weaker, Contains-get_or}
use Rattle.oci_manifest.specs.Descriptor.{Descriptor, key_cmp}
use Rattle.oci_store.specs.Closed.{IsClosed}
use Rattle.oci_store.specs.Content.{Entry}
use Rattle.oci_store.specs.Graph.{Node}
use Rattle.oci_store.specs.Keyed.{has_key, HasAll}
use Rattle.oci_store.specs.Tags.{Tags}
use Rattle.oci_store.proofs.Lookups.{Contains-from_has_key, has_key-same_keys}
use Rattle.oci_layout_store.specs.Blobs.{blob_at, blob_path, keys_of-stored, stored, IsSound}
use Rattle.oci_dir.specs.Crash.{IsLeft, IsSettled}
use Rattle.oci_layout_store.specs.Keeps.{KeepsSettled}
use Rattle.oci_dir.specs.Device.{Device, File}
use Rattle.oci_layout_store.specs.Lasts.{AreKnown, HasLayout, Lasts}
use Rattle.oci_layout_store.specs.Layout.{LayoutState, OnlyFiles, SameMemory}
use Rattle.oci_layout_store.proofs.Lasting.{lasting_is_left}
use Rattle.oci_prune.specs.Pruned.{kept_of, AllAmong, IsOfNoEntry, IsOfNoKey, Spares}
use Rattle.oci_prune.specs.Settled.{CanSettle, LeavesOneOf}
use Rattle.oci_prune.specs.declared.plan.PrunedFile.{PrunedFile}
use Rattle.oci_prune.proofs.Leaving.{held_from_node}

abbrev Set : Type 0
Set = BTreeSet Descriptor

-- ---- keys that are known

-- a key is held there, or its file is on the disk
abbrev pub IsKnown : Device → List Entry → Node → Type 0
IsKnown dir entries n = (has_key entries n.0 ≡ true) ⊎ IsSettled dir (blob_path n.0.digest)

pub known_all : (dir : Device) (graph : List Node) (entries : List Entry) → AreKnown dir (length graph) graph entries → All (IsKnown dir entries) graph
known_all dir graph entries known = subst (λ (ns : List Node). All (IsKnown dir entries) ns) (take_all (length graph) graph (omega arith)) known

pub all_known : (dir : Device) (graph : List Node) (entries : List Entry) → All (IsKnown dir entries) graph → AreKnown dir (length graph) graph entries
all_known dir graph entries known = subst (λ (ns : List Node). All (IsKnown dir entries) ns) (sym (take_all (length graph) graph (omega arith))) known

-- the keys of a layout are known where it lasts itself
pub own_known : (dir : Device) (file : File) (graph : List Node) → All (IsKnown dir (stored file graph)) graph
own_known dir file graph =
    All-weaker (Contains graph) (IsKnown dir (stored file graph)) (λ n there. inl (has_key-same_keys graph (stored file graph) n.0 (keys_of-stored file graph) (held_from_node graph n there))) graph
    (All-contains_itself graph)

known_kept : (dir : Device) (set : Set) (graph : List Node) (entries : List Entry) → AreKnown dir (length graph) graph entries → AreKnown dir (length (kept_of set graph)) (kept_of set graph) entries
known_kept dir set graph entries known =
    all_known dir (kept_of set graph) entries (All-filter (λ (n : Node). contains key_cmp set n.0) (IsKnown dir entries) graph (known_all dir graph entries known))

-- ---- a save

-- what a settled save leaves of a layout with this graph and these tags
abbrev pub SavesWhole : Device → ℕ → List Node → Tags → Device → Type 0
SavesWhole old from graph tags new = IsSound old.is_honest old.file graph → IsClosed graph → (entries : List Entry) (were : Tags) → Lasts old entries were → AreKnown old from graph entries
    → (left : File) → IsLeft new left → HasLayout left entries were ⊎ HasLayout left (stored old.file graph) tags

-- what lasts after it
abbrev pub SavesLasting : Device → ℕ → List Node → Tags → Device → Type 0
SavesLasting old from graph tags new = IsSound old.is_honest old.file graph → IsClosed graph → (entries : List Entry) (were : Tags) → Lasts old entries were → AreKnown old from graph entries
    → Lasts new (stored old.file graph) tags

same_contents : {D : Type 0} (device : D → Device) (old new : LayoutState D) → (device old.dir).is_honest → OnlyFiles device old new → stored (device new.dir).file new.graph ≡ stored (device old.dir).file old.graph
same_contents device old new honest only = ap (stored (device new.dir).file) only.memory.graph ∙ only.contents honest

pub left_saved : {D : Type 0} (device : D → Device) (old new : LayoutState D) (from : ℕ) → OnlyFiles device old new → SavesWhole (device old.dir) from old.graph old.tags (device new.dir)
    → (entries : List Entry) (tags : Tags) → CanSettle (device old.dir) from old.graph entries tags → LeavesOneOf (device new.dir) entries tags (stored (device new.dir).file new.graph) new.tags
left_saved device old new from only saves entries tags can left may =
    elim (saves can.is_sound can.closed entries tags can.lasts can.known left may) [
      | inl was ↦ inl was
      | inr now ↦
          inr (subst (λ (es : List Entry). HasLayout left es new.tags) (sym (same_contents device old new can.is_sound.is_honest only))
          (subst (λ (names : Tags). HasLayout left (stored (device old.dir).file old.graph) names) (sym only.memory.tags) now))
    ]

pub lasts_saved : {D : Type 0} (device : D → Device) (old new : LayoutState D) (from : ℕ) → OnlyFiles device old new → SavesLasting (device old.dir) from old.graph old.tags (device new.dir)
    → (entries : List Entry) (tags : Tags) → CanSettle (device old.dir) from old.graph entries tags → Lasts (device new.dir) (stored (device new.dir).file new.graph) new.tags
lasts_saved device old new from only saves entries tags can =
    subst (λ (es : List Entry). Lasts (device new.dir) es new.tags) (sym (same_contents device old new can.is_sound.is_honest only))
    (subst (λ (names : Tags). Lasts (device new.dir) (stored (device old.dir).file old.graph) names) (sym only.memory.tags) (saves can.is_sound can.closed entries tags can.lasts can.known))

-- where only tags changed, a layout can be saved as before
pub can_settle_same : {D : Type 0} (device : D → Device) (old new : LayoutState D) (from count : ℕ) (entries : List Entry) (tags : Tags) → new.dir ≡ old.dir → new.graph ≡ old.graph → count ≡ from
    → CanSettle (device old.dir) from old.graph entries tags → CanSettle (device new.dir) count new.graph entries tags
can_settle_same {D} device old new from count entries tags dir graph same can =
    subst (λ (d : D). CanSettle (device d) count new.graph entries tags) (sym dir)
    (subst (λ (g : List Node). CanSettle (device old.dir) count g entries tags) (sym graph) (subst (λ (n : ℕ). CanSettle (device old.dir) n old.graph entries tags) (sym same) can))

-- a layout whose keys are known can be saved with fewer of them
pub can_settle_kept : {D : Type 0} (device : D → Device) (old new : LayoutState D) (set : Set) (count : ℕ) (entries : List Entry) (tags : Tags) → new.dir ≡ old.dir → new.graph ≡ kept_of set old.graph → count ≡ length new.graph
    → (IsSound (device old.dir).is_honest (device old.dir).file old.graph → IsSound (device new.dir).is_honest (device new.dir).file new.graph) → IsClosed (kept_of set old.graph)
    → CanSettle (device old.dir) (length old.graph) old.graph entries tags → CanSettle (device new.dir) count new.graph entries tags
can_settle_kept {D} device old new set count entries tags dir graph counted sound closed can = record {
  is_sound = sound can.is_sound;
  closed = subst (λ (g : List Node). IsClosed g) (sym graph) closed;
  lasts = subst (λ (d : D). Lasts (device d) entries tags) (sym dir) can.lasts;
  known = subst (λ (n : ℕ). AreKnown (device new.dir) n new.graph entries) (sym counted)
      (subst (λ (d : D). AreKnown (device d) (length new.graph) new.graph entries) (sym dir)
      (subst (λ (g : List Node). AreKnown (device old.dir) (length g) g entries) (sym graph) (known_kept (device old.dir) set old.graph entries can.known)));
}

-- a layout that files were removed from which no key has can be saved as before
pub can_settle_spared : {D : Type 0} (device : D → Device) (old new : LayoutState D) (touched : List ℕ → Type 0) (entries : List Entry) (tags : Tags) → SameMemory old new → Spares (device old.dir) (device new.dir) old.graph touched
    → KeepsSettled (device old.dir) (device new.dir) old.graph → Lasts (device new.dir) entries tags → CanSettle (device old.dir) (length old.graph) old.graph entries tags → CanSettle (device new.dir) (length new.graph) new.graph entries tags
can_settle_spared device old new touched entries tags memory spares settled lasts can =
    subst (λ (g : List Node). CanSettle (device new.dir) (length g) g entries tags) (sym memory.graph) (record {
      is_sound = spares.sound can.is_sound;
      closed = can.closed;
      lasts = lasts;
      known = all_known (device new.dir) old.graph entries known;
    })
  where
    known : All (IsKnown (device new.dir) entries) old.graph
    known place d lt =
        let n = get_or old.graph place d in
        elim (known_all (device old.dir) old.graph entries can.known place d lt) [
          | inl was ↦ inl was
          | inr is ↦ inr (settled can.is_sound.is_honest n.0 (held_from_node old.graph n (Contains-get_or old.graph place d lt)) is)
        ]

-- where nothing is written, what lasts is left
pub left_unsaved : (dir : Device) (entries others : List Entry) (tags names : Tags) → Lasts dir entries tags → LeavesOneOf dir entries tags others names
left_unsaved dir entries others tags names lasts left may = inl (lasting_is_left dir entries tags lasts left may)

pub left_lasting : (dir : Device) (entries others : List Entry) (tags names : Tags) → Lasts dir others names → LeavesOneOf dir entries tags others names
left_lasting dir entries others tags names lasts left may = inr (lasting_is_left dir others names lasts left may)

-- ---- the removal of files

abbrev IsOther : PrunedFile → Descriptor → Type 0
IsOther f k = k.digest ≢ f.digest

apart_stored : (file : File) (f : PrunedFile) (graph : List Node) → IsOfNoKey graph f → IsOfNoEntry (stored file graph) f
apart_stored file f [] others = All-nil (λ (e : Entry). e.0.digest ≢ f.digest)
apart_stored file f (n ∷ graph) others =
    All-cons (λ (e : Entry). e.0.digest ≢ f.digest) (n.0, blob_at file n.0.digest) (stored file graph) (All-head (IsOther f) n.0 (keys_of graph) others) (apart_stored file f graph (All-tail (IsOther f) n.0 (keys_of graph) others))

apart_held : (f : PrunedFile) (graph : List Node) (entries : List Entry) → HasAll graph (keys_of entries) → IsOfNoKey graph f → IsOfNoEntry entries f
apart_held f graph [] held others = All-nil (λ (e : Entry). e.0.digest ≢ f.digest)
apart_held f graph (e ∷ entries) held others =
    All-cons (λ (e : Entry). e.0.digest ≢ f.digest) e entries
    (All-contains (IsOther f) (keys_of graph) e.0 others (Contains-from_has_key graph e.0 (All-head (λ (k : Descriptor). has_key graph k ≡ true) e.0 (keys_of entries) held)))
    (apart_held f graph entries (All-tail (λ (k : Descriptor). has_key graph k ≡ true) e.0 (keys_of entries) held) others)

pub among_apart_stored : (is_held : Bool) (file : File) (graph : List Node) (files : List PrunedFile) → AllAmong is_held (IsOfNoKey graph) files → AllAmong is_held (IsOfNoEntry (stored file graph)) files
among_apart_stored is_held file graph files others place d lt flag = apart_stored file (get_or files place d) graph (others place d lt flag)

pub among_apart_held : (is_held : Bool) (graph : List Node) (entries : List Entry) (files : List PrunedFile) → HasAll graph (keys_of entries) → AllAmong is_held (IsOfNoKey graph) files → AllAmong is_held (IsOfNoEntry entries) files
among_apart_held is_held graph entries files held others place d lt flag = apart_held (get_or files place d) graph entries held (others place d lt flag)

-- one of the files
pub among_at : (is_held : Bool) (is_so : PrunedFile → Type 0) (files : List PrunedFile) (i : ℕ) (f : PrunedFile) → i < length files → f ≡ get_or files i f → AllAmong is_held is_so files → f.is_held ≡ is_held → is_so f
among_at is_held is_so files i f lt is all = subst (λ (g : PrunedFile). g.is_held ≡ is_held → is_so g) (sym is) (all i f lt)

-- no file goes, or one does
pub none_or_some : {X : Type 0} (xs : List X) → (xs ≡ []) ⊎ (xs ≢ [])
none_or_some [] = inl refl
none_or_some (x ∷ xs) = inr (λ e. cc e)
