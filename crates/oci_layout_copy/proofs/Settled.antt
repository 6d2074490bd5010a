-- A power cut leaves the old layout or the new one where a copy is saved.
use Rattle.std.proofs.Common.{◌≡◌, inl, inr, ℕ, List, length, take, Result, Ok, Err, refl, sym, ap, subst, ◌∙◌, arith}
use Rattle.std.specs.Prelude.{⊤, ◌<◌, ◌^◌, ◌-◌, IfOk, OnOk, OnErr}
use Rattle.std.specs.List.{All}
use Rattle.std.proofs.lemmas.List.{take_all, take-append-le}
use Rattle.oci_manifest.specs.Descriptor.{Descriptor}
use Rattle.oci_store.specs.Content.{Entry}
use Rattle.oci_store.specs.Graph.{Node}
use Rattle.oci_store.specs.State.{State}
use Rattle.oci_store.specs.Tags.{Tags}
use Rattle.oci_copy.specs.Copy.{OnlyGrows}
use Rattle.oci_copy.specs.Grown.{BeginsWith, SameByDigest}
use Rattle.oci_copy.specs.declared.fault.CopyFault.{CopyFault}
use Rattle.oci_layout_store.specs.Blobs.{stored}
use Rattle.oci_dir.specs.Device.{Device, File}
use Rattle.oci_layout_store.specs.Lasts.{AreKnown, HasLayout, Lasts}
use Rattle.oci_layout_store.specs.Layout.{LayoutState, OnlyIndex}
use Rattle.oci_layout_store.specs.Meaning.{meaning}
use Rattle.oci_layout_store.specs.Refusal.{IsSettledFault}
use Rattle.oci_layout_store.specs.declared.fault.LayoutFault.{LayoutFault}
use Rattle.oci_layout_store.specs.declared.fault.LayoutFault.TheVariants as layout
use Rattle.oci_program.specs.declared.fault.ProgramFault.{ProgramFault}
use Rattle.oci_prune.specs.Settled.{CanSettle, LeavesOneOf}
use Rattle.oci_prune.proofs.Settling.{can_settle_same, left_unsaved, own_known, IsKnown, SavesLasting, SavesWhole}
use Rattle.oci_layout_copy.specs.Between.{IsSaved}
use Rattle.oci_layout_copy.specs.Refusal.{IsSaveFault}
use Rattle.oci_layout_copy.specs.Settled.{StartsSettled}

-- ---- a save

-- the fault of a settled save, by the directory after it
pub save_fault : (old new : Device) (e : LayoutFault) → new.fails_reads ≡ old.fails_reads → IsSettledFault old new e → IsSaveFault new.fails_reads old.failures new.failures e
save_fault old new layout.Device reads (inl is) = inl (reads ∙ is.0, is.1)
save_fault old new layout.Device reads (inr is) = inr is
save_fault old new layout.Memory reads is = is
save_fault old new e reads is = is

-- a layout whose tags changed was saved
pub left_tagged : {D : Type 0} (device : D → Device) (old before new : LayoutState D) (from : ℕ) → before.dir ≡ old.dir → before.graph ≡ old.graph → new.tags ≡ before.tags → SavesWhole (device before.dir) from before.graph before.tags (device new.dir)
    → (entries : List Entry) (tags : Tags) → CanSettle (device old.dir) from old.graph entries tags → LeavesOneOf (device new.dir) entries tags (stored (device old.dir).file old.graph) new.tags
left_tagged {D} device old before new from dir graph names saves entries tags can left may =
    let now = can_settle_same device old before from from entries tags dir graph refl can in
    elim (saves now.is_sound now.closed entries tags now.lasts now.known left may) [
      | inl was ↦ inl was
      | inr is ↦
          inr (subst (λ (d : D). HasLayout left (stored (device d).file old.graph) new.tags) dir
          (subst (λ (ns : List Node). HasLayout left (stored (device before.dir).file ns) new.tags) graph (subst (λ (ts : Tags). HasLayout left (stored (device before.dir).file before.graph) ts) (sym names) is)))
    ]

pub lasts_tagged : {D : Type 0} (device : D → Device) (old before new : LayoutState D) (from : ℕ) → before.dir ≡ old.dir → before.graph ≡ old.graph → new.tags ≡ before.tags → SavesLasting (device before.dir) from before.graph before.tags (device new.dir)
    → (entries : List Entry) (tags : Tags) → CanSettle (device old.dir) from old.graph entries tags → Lasts (device new.dir) (stored (device old.dir).file old.graph) new.tags
lasts_tagged {D} device old before new from dir graph names saves entries tags can =
    let now = can_settle_same device old before from from entries tags dir graph refl can in
    let is = saves now.is_sound now.closed entries tags now.lasts now.known in
    subst (λ (d : D). Lasts (device new.dir) (stored (device d).file old.graph) new.tags) dir
    (subst (λ (ns : List Node). Lasts (device new.dir) (stored (device before.dir).file ns) new.tags) graph (subst (λ (ts : Tags). Lasts (device new.dir) (stored (device before.dir).file before.graph) ts) (sym names) is))

-- ---- a copy

abbrev pub state_of : {D : Type 0} → (D → Device) → LayoutState D → State
state_of device l = meaning (device l.dir) l.graph l.tags

known_begun : (dir : Device) (file : File) (old new : List Node) → BeginsWith old new → AreKnown dir (length old) new (stored file old)
known_begun dir file old new begins =
    let first : take (length old) new ≡ old = ap (take (length old)) begins.1 ∙ take-append-le (length old) old begins.0 (omega arith) ∙ take_all (length old) old (omega arith) in
    subst (λ (ns : List Node). All (IsKnown dir (stored file old)) ns) (sym first) (own_known dir file old)

-- a copy without a failed put leaves a layout that can be saved whole
pub can_settle_copied : {D : Type 0} (device : D → Device) (source : State) (old copied : LayoutState D) (roots : List Descriptor) → SameByDigest source.entries source.entries → OnlyGrows ⊤ source (state_of device old) roots (state_of device copied)
    → (device copied.dir).failures ≡ (device old.dir).failures → StartsSettled source (state_of device old) → CanSettle (device copied.dir) (length old.graph) copied.graph (stored (device old.dir).file old.graph) old.tags
can_settle_copied device source old copied roots alike grows calm starts =
    let less : (device copied.dir).failures < 2 ^ 64 - 1 = (let l = starts.counts in omega (arith, calm, l)) in
    record {
      is_sound = grows.sound (record { is_honest = starts.is_honest; is_sound = starts.is_sound; is_calm = (calm, less); same_old = λ _. starts.same; same_source = λ _. alike });
      closed = grows.closed starts.closed;
      lasts = grows.lasts starts.is_honest (stored (device old.dir).file old.graph) old.tags starts.same starts.lasts;
      known = known_begun (device copied.dir) (device old.dir).file old.graph copied.graph grows.begins;
    }

-- whatever the copy and the save answered
pub left_between : {D X : Type 0} (device : D → Device) (source : State) (old copied new : LayoutState D) (roots : List Descriptor) (answer : Result X CopyFault) → SameByDigest source.entries source.entries
    → OnlyGrows ⊤ source (state_of device old) roots (state_of device copied) → OnOk answer ((device copied.dir).failures ≡ (device old.dir).failures) → OnErr answer (OnlyIndex copied new) → IsSaved (state_of device copied) (state_of device new)
    → ((entries : List Entry) (tags : Tags) → CanSettle (device copied.dir) (length old.graph) copied.graph entries tags → LeavesOneOf (device new.dir) entries tags (stored (device copied.dir).file copied.graph) new.tags)
    → StartsSettled source (state_of device old) → LeavesOneOf (device new.dir) (stored (device old.dir).file old.graph) old.tags (stored (device new.dir).file new.graph) new.tags
left_between device source old copied new roots (Ok x) alike grows calm only saved leaves starts left may =
    let can = can_settle_copied device source old copied roots alike grows calm starts in
    elim (leaves (stored (device old.dir).file old.graph) old.tags can left may) [
      | inl was ↦ inl was
      | inr now ↦ inr (subst (λ (es : List Entry). HasLayout left es new.tags) (sym (saved.entries can.is_sound)) now)
    ]
left_between {D} device source old copied new roots (Err e) alike grows calm only saved leaves starts left may =
    let content = stored (device old.dir).file old.graph in
    let was = grows.lasts starts.is_honest content old.tags starts.same starts.lasts in
    left_unsaved (device new.dir) content (stored (device new.dir).file new.graph) old.tags new.tags (subst (λ (d : D). Lasts (device d) content old.tags) (sym only.dir) was) left may

pub lasts_between : {D X Y : Type 0} (device : D → Device) (source : State) (old copied new : LayoutState D) (roots : List Descriptor) (answer : Result X CopyFault) (done : Result Y ProgramFault) (report : Y → X) → SameByDigest source.entries source.entries
    → OnlyGrows ⊤ source (state_of device old) roots (state_of device copied) → OnOk answer ((device copied.dir).failures ≡ (device old.dir).failures) → IfOk done (λ it. answer ≡ Ok (report it)) → IsSaved (state_of device copied) (state_of device new)
    → OnOk done ((entries : List Entry) (tags : Tags) → CanSettle (device copied.dir) (length old.graph) copied.graph entries tags → Lasts (device new.dir) (stored (device copied.dir).file copied.graph) new.tags)
    → OnOk done (StartsSettled source (state_of device old) → Lasts (device new.dir) (stored (device new.dir).file new.graph) new.tags)
lasts_between device source old copied new roots answer (Err e) report alike grows calm same saved lasts = lasts
lasts_between {X = X} device source old copied new roots answer (Ok y) report alike grows calm same saved lasts = λ starts.
    let calm_now = subst (λ (r : Result X CopyFault). OnOk r ((device copied.dir).failures ≡ (device old.dir).failures)) same calm in
    let can = can_settle_copied device source old copied roots alike grows calm_now starts in
    subst (λ (es : List Entry). Lasts (device new.dir) es new.tags) (sym (saved.entries can.is_sound)) (lasts (stored (device old.dir).file old.graph) old.tags can)
