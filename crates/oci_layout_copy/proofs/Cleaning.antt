-- What a power cut leaves where a copy is cleaned up.
use Rattle.std.proofs.Common.{◌≡◌, inl, inr, ℕ, true, List, [], ◌∷◌, length, take, drop, Option, Result, Ok, Err, refl, sym, ap, subst, ◌∙◌, arith}
use Rattle.std.specs.Prelude.{⊤, IsSome, IfOk, OnOk, OnErr}
use Rattle.std.specs.List.{All}
use Rattle.std.specs.Map.{keys_of}
use Rattle.std.specs.Option.{unwrap_or}
use Rattle.std.proofs.lemmas.List.{take-append-drop, take_all, take-append-le}
use Rattle.std.proofs.lemmas.List.Elements.{All-append, All-weaker, All-contains_itself}
use Rattle.std.specs.Prelude.{Contains}
use Rattle.oci_manifest.specs.Descriptor.{Descriptor}
use Rattle.oci_store.specs.Closed.{IsClosed}
use Rattle.oci_store.specs.Content.{Entry, IsContent}
use Rattle.oci_store.specs.Graph.{Node, nodes_of}
use Rattle.oci_store.specs.Keyed.{has_key, HasAll}
use Rattle.oci_store.specs.State.{State}
use Rattle.oci_store.specs.Tags.{Tags}
use Rattle.oci_store.proofs.Lookups.{has_key-append_left, has_key-from_Contains, has_key-same_keys}
use Rattle.oci_copy.specs.Copy.{OnlyGrows}
use Rattle.oci_copy.specs.Grown.{BeginsWith, SameByDigest}
use Rattle.oci_copy.specs.declared.fault.CopyFault.{CopyFault}
use Rattle.oci_layout_store.specs.Blobs.{blob_path, keys_of-stored, stored, IsSound}
use Rattle.oci_dir.specs.Crash.{IsSettled, OnlySettles}
use Rattle.oci_dir.specs.Device.{Device, File, Same}
use Rattle.oci_layout_store.specs.Lasts.{Lasts}
use Rattle.oci_layout_store.specs.Layout.{LayoutState, OnlyIndex}
use Rattle.oci_program.specs.declared.fault.ProgramFault.{ProgramFault}
use Rattle.oci_prune.specs.Settled.{CanSettle, LeavesOneOf}
use Rattle.oci_prune.proofs.Leaving.{held_from_node}
use Rattle.oci_prune.proofs.Settling.{all_known, left_unsaved, IsKnown}
use Rattle.oci_layout_copy.specs.Settled.{AreSettled, CanCleanUp, StartsSettled}
use Rattle.oci_layout_copy.proofs.Settled.{can_settle_copied, state_of}

abbrev IsHeldIn : List Entry → Node → Type 0
IsHeldIn entries n = has_key entries n.0 ≡ true

abbrev IsSettledNode : Device → Node → Type 0
IsSettledNode dir n = IsSettled dir (blob_path n.0.digest)

-- where the copied files are on the disk, a clean-up can save the layout whole
pub can_settle_cleaned : (dir : Device) (from : ℕ) (graph : List Node) (entries : List Entry) (tags : Tags) → CanCleanUp dir from graph entries tags → AreSettled dir (drop from graph) → CanSettle dir (length graph) graph entries tags
can_settle_cleaned dir from graph entries tags can settled = record {
  is_sound = can.is_sound;
  closed = can.closed;
  lasts = can.lasts;
  known = all_known dir graph entries
      (subst (λ (ns : List Node). All (IsKnown dir entries) ns) (take-append-drop from graph)
      (All-append (IsKnown dir entries) (take from graph) (drop from graph) (All-weaker (IsHeldIn entries) (IsKnown dir entries) (λ n held. inl held) (take from graph) can.first)
      (All-weaker (IsSettledNode dir) (IsKnown dir entries) (λ n is. inr is) (drop from graph) settled)));
}

-- where no key went, it can be saved once more
pub can_settle_whole : (dir : Device) (from : ℕ) (graph old : List Node) (entries : List Entry) (tags : Tags) → graph ≡ old → IsSound dir.is_honest dir.file graph → IsClosed graph → Lasts dir entries tags
    → All (λ (n : Node). has_key entries n.0 ≡ true) (take from old) → CanSettle dir from graph entries tags
can_settle_whole dir from graph old entries tags same sound closed lasts first = record {
  is_sound = sound;
  closed = closed;
  lasts = lasts;
  known = subst (λ (g : List Node). All (IsKnown dir entries) (take from g)) (sym same) (All-weaker (IsHeldIn entries) (IsKnown dir entries) (λ n held. inl held) (take from old) first);
}

-- where neither the directory nor the keys changed
pub can_clean_up_same : {D : Type 0} (device : D → Device) (old new : LayoutState D) (from : ℕ) (entries : List Entry) (tags : Tags) → new.dir ≡ old.dir → new.graph ≡ old.graph → CanCleanUp (device old.dir) from old.graph entries tags
    → CanCleanUp (device new.dir) from new.graph entries tags
can_clean_up_same {D} device old new from entries tags dir graph can =
    subst (λ (d : D). CanCleanUp (device d) from new.graph entries tags) (sym dir) (subst (λ (g : List Node). CanCleanUp (device old.dir) from g entries tags) (sym graph) can)

pub are_settled_same : {D : Type 0} (device : D → Device) (old new : LayoutState D) (from : ℕ) → new.dir ≡ old.dir → new.graph ≡ old.graph → AreSettled (device old.dir) (drop from old.graph) → AreSettled (device new.dir) (drop from new.graph)
are_settled_same {D} device old new from dir graph are =
    subst (λ (d : D). AreSettled (device d) (drop from new.graph)) (sym dir) (subst (λ (g : List Node). AreSettled (device old.dir) (drop from g)) (sym graph) are)

pub are_settled_now : (dir : Device) (from : ℕ) (old new : List Node) → new ≡ old → AreSettled dir (drop from old) → AreSettled dir (drop from new)
are_settled_now dir from old new same are = subst (λ (g : List Node). AreSettled dir (drop from g)) (sym same) are

-- ---- where files were only put onto the disk

stored_same : (old new : File) (graph : List Node) → Same old new → stored new graph ≡ stored old graph
stored_same old new [] same = refl
stored_same old new (n ∷ graph) same =
    ap (λ (o : Option (List ℕ)). (n.0, unwrap_or o []) ∷ stored new graph) (same (blob_path n.0.digest)) ∙ ap (λ (es : List Entry). (n.0, unwrap_or (old (blob_path n.0.digest)) []) ∷ es) (stored_same old new graph same)

sound_settled : (old new : Device) (graph : List Node) → OnlySettles old new → IsSound old.is_honest old.file graph → IsSound new.is_honest new.file graph
sound_settled old new graph only sound =
    let same = only.files sound.is_honest in
    let contents = stored_same old.file new.file graph same in
    record {
      is_honest = only.honest.0 sound.is_honest;
      are_there = All-weaker (λ (n : Node). IsSome (old.file (blob_path n.0.digest))) (λ (n : Node). IsSome (new.file (blob_path n.0.digest))) (λ n there. subst (λ (o : Option (List ℕ)). IsSome o) (sym (same (blob_path n.0.digest))) there) graph sound.are_there;
      content = subst (λ (es : List Entry). IsContent es) (sym contents) sound.content;
      listed = subst (λ (es : List Entry). graph ≡ nodes_of es) (sym contents) sound.listed;
    }

pub can_clean_up_settled : {D : Type 0} (device : D → Device) (old new : LayoutState D) (from : ℕ) (entries : List Entry) (tags : Tags) → new.graph ≡ old.graph → OnlySettles (device old.dir) (device new.dir) → Lasts (device new.dir) entries tags
    → CanCleanUp (device old.dir) from old.graph entries tags → CanCleanUp (device new.dir) from new.graph entries tags
can_clean_up_settled device old new from entries tags graph only lasts can =
    subst (λ (g : List Node). CanCleanUp (device new.dir) from g entries tags) (sym graph)
    (record { is_sound = sound_settled (device old.dir) (device new.dir) old.graph only can.is_sound; closed = can.closed; lasts = lasts; first = can.first; held = can.held })

-- ---- a mirror

held_begun : (old new : List Node) (entries : List Entry) → keys_of old ≡ keys_of entries → BeginsWith old new → HasAll new (keys_of entries)
held_begun old new entries same begins =
    All-weaker (Contains (keys_of entries)) (λ (k : Descriptor). has_key new k ≡ true)
    (λ k there. subst (λ (g : List Node). has_key g k ≡ true) (sym begins.1) (has_key-append_left old begins.0 k (has_key-same_keys entries old k (sym same) (has_key-from_Contains entries k there)))) (keys_of entries)
    (All-contains_itself (keys_of entries))

first_begun : (file : File) (old new : List Node) → BeginsWith old new → All (IsHeldIn (stored file old)) (take (length old) new)
first_begun file old new begins =
    let first : take (length old) new ≡ old = ap (take (length old)) begins.1 ∙ take-append-le (length old) old begins.0 (omega arith) ∙ take_all (length old) old (omega arith) in
    subst (λ (ns : List Node). All (IsHeldIn (stored file old)) ns) (sym first)
    (All-weaker (Contains old) (IsHeldIn (stored file old)) (λ n there. has_key-same_keys old (stored file old) n.0 (keys_of-stored file old) (held_from_node old n there)) old (All-contains_itself old))

can_clean_up_copied : {D : Type 0} (device : D → Device) (source : State) (old copied : LayoutState D) (roots : List Descriptor) → SameByDigest source.entries source.entries → OnlyGrows ⊤ source (state_of device old) roots (state_of device copied)
    → (device copied.dir).failures ≡ (device old.dir).failures → StartsSettled source (state_of device old) → CanCleanUp (device copied.dir) (length old.graph) copied.graph (stored (device old.dir).file old.graph) old.tags
can_clean_up_copied device source old copied roots alike grows calm starts =
    let can = can_settle_copied device source old copied roots alike grows calm starts in
    record {
      is_sound = can.is_sound;
      closed = can.closed;
      lasts = can.lasts;
      first = first_begun (device old.dir).file old.graph copied.graph grows.begins;
      held = held_begun old.graph copied.graph (stored (device old.dir).file old.graph) (keys_of-stored (device old.dir).file old.graph) grows.begins;
    }

-- whatever the copy and the clean-up answered
pub left_mirrored : {D X : Type 0} (device : D → Device) (source : State) (old copied new : LayoutState D) (roots : List Descriptor) (answer : Result X CopyFault) → SameByDigest source.entries source.entries
    → OnlyGrows ⊤ source (state_of device old) roots (state_of device copied) → OnOk answer ((device copied.dir).failures ≡ (device old.dir).failures) → OnErr answer (OnlyIndex copied new)
    → ((entries : List Entry) (tags : Tags) → CanCleanUp (device copied.dir) (length old.graph) copied.graph entries tags → LeavesOneOf (device new.dir) entries tags (stored (device new.dir).file new.graph) new.tags)
    → StartsSettled source (state_of device old) → LeavesOneOf (device new.dir) (stored (device old.dir).file old.graph) old.tags (stored (device new.dir).file new.graph) new.tags
left_mirrored device source old copied new roots (Ok x) alike grows calm only leaves starts =
    leaves (stored (device old.dir).file old.graph) old.tags (can_clean_up_copied device source old copied roots alike grows calm starts)
left_mirrored {D} device source old copied new roots (Err e) alike grows calm only leaves starts =
    let content = stored (device old.dir).file old.graph in
    let was = grows.lasts starts.is_honest content old.tags starts.same starts.lasts in
    left_unsaved (device new.dir) content (stored (device new.dir).file new.graph) old.tags new.tags (subst (λ (d : D). Lasts (device d) content old.tags) (sym only.dir) was)

pub lasts_mirrored : {D X Y : Type 0} (device : D → Device) (source : State) (old copied new : LayoutState D) (roots : List Descriptor) (answer : Result X CopyFault) (done : Result Y ProgramFault) (report : Y → X) → SameByDigest source.entries source.entries
    → OnlyGrows ⊤ source (state_of device old) roots (state_of device copied) → OnOk answer ((device copied.dir).failures ≡ (device old.dir).failures) → IfOk done (λ it. answer ≡ Ok (report it))
    → OnOk done ((entries : List Entry) (tags : Tags) → CanCleanUp (device copied.dir) (length old.graph) copied.graph entries tags → Lasts (device new.dir) (stored (device new.dir).file new.graph) new.tags)
    → OnOk done (StartsSettled source (state_of device old) → Lasts (device new.dir) (stored (device new.dir).file new.graph) new.tags)
lasts_mirrored device source old copied new roots answer (Err e) report alike grows calm same lasts = lasts
lasts_mirrored {X = X} device source old copied new roots answer (Ok y) report alike grows calm same lasts = λ starts.
    let calm_now = subst (λ (r : Result X CopyFault). OnOk r ((device copied.dir).failures ≡ (device old.dir).failures)) same calm in
    lasts (stored (device old.dir).file old.graph) old.tags (can_clean_up_copied device source old copied roots alike grows calm_now starts)
