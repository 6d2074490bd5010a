-- What a copy and a prune after it leave.
use Rattle.std.proofs.Common.{◌≡◌, Bool, true, inr, List, length, ◌++◌, is_some, sym, ap, subst, ◌∙◌}
use Rattle.std.specs.Prelude.{⊤, Contains, Result, Ok, Err, IfOk, OnOk, OnErr}
use Rattle.std.specs.Map.{values_of}
use Rattle.std.proofs.lemmas.List.Elements.{Contains-append_left}
use Rattle.std.proofs.lemmas.Result.{IfOk-at_ok}
use Rattle.oci_manifest.specs.Descriptor.{Descriptor}
use Rattle.oci_store.specs.Copied.{Agree, IsCopied}
use Rattle.oci_store.specs.Graph.{Node, Reaches, root as start, along}
use Rattle.oci_store.specs.Keyed.{has_key, value_at}
use Rattle.oci_store.specs.State.{State}
use Rattle.oci_store.specs.Tags.{Tags}
use Rattle.oci_store.proofs.Lookups.{found, value_at-append_left}
use Rattle.oci_copy.specs.Copy.{IsCopy, OnlyGrows}
use Rattle.oci_copy.specs.Grown.{graph_of, BeginsWith, SameByDigest}
use Rattle.oci_copy.specs.declared.options.Options.{Options}
use Rattle.oci_copy.specs.declared.report.Report.{Report}
use Rattle.oci_layout_store.specs.Layout.{LayoutState, OpenedIndex}
use Rattle.oci_layout_store.specs.Saved.{shadowed_keys}
use Rattle.oci_prune.specs.Plan.{roots_of}
use Rattle.oci_prune.specs.Pruned.{KeepsReached}
use Rattle.oci_plan.specs.declared.gathering.Existing.{Existing}
use Rattle.oci_copy.specs.Report.{IsReport}
use Rattle.oci_dir.specs.Device.{Device}
use Rattle.oci_layout_store.specs.Meaning.{meaning}
use Rattle.oci_layout_copy.specs.Between.{BringsOnlyMet, IsTrusted}
use Rattle.oci_layout_copy.specs.Goal.{Goal}
use Rattle.oci_layout_copy.specs.Mirror.{IsCleanedCopySettled, IsMirrored}
use Rattle.oci_layout_copy.specs.declared.copied.Copied.{Copied}

-- ---- a layout from its parts

-- layouts of the same parts are the same
pub same_layout : {D : Type 0} (a b : LayoutState D) → a.dir ≡ b.dir → a.graph ≡ b.graph → a.tags ≡ b.tags → a.opened ≡ b.opened → a ≡ b
same_layout {D} a b dir graph tags opened =
    ap (λ (d : D). record { dir = d; graph = a.graph; tags = a.tags; opened = a.opened }) dir
    ∙ ap (λ (g : List Node). record { dir = b.dir; graph = g; tags = a.tags; opened = a.opened }) graph
    ∙ ap (λ (t : Tags). record { dir = b.dir; graph = b.graph; tags = t; opened = a.opened }) tags
    ∙ ap (λ (o : OpenedIndex). record { dir = b.dir; graph = b.graph; tags = b.tags; opened = o }) opened

-- ---- what is reached

-- what is reached from some keys is reached from more
pub reached_from_more : (graph : List Node) (keys more : List Descriptor) → ((k : Descriptor) → Contains keys k → Contains more k) → (k : Descriptor) → Reaches graph keys k → Reaches graph more k
reached_from_more graph keys more among k (start named) = start (among k named)
reached_from_more graph keys more among k (along {from} path edge) = along (reached_from_more graph keys more among from path) edge

-- a prune keeps what the tags reach
pub tagged_stay : {D : Type 0} (l : LayoutState D) (graph : List Node) → KeepsReached l.graph graph (roots_of l) → KeepsReached l.graph graph (values_of l.tags)
tagged_stay l graph keeps k reached =
    keeps k (reached_from_more l.graph (values_of l.tags) (roots_of l) (λ other named. Contains-append_left (values_of l.tags) (shadowed_keys l.opened l.graph l.tags) other named) k reached)

-- what is unchanged keeps what is reached
pub all_stay : (old new : List Node) (keys : List Descriptor) → new ≡ old → KeepsReached old new keys
all_stay old new keys same k reached = ap (λ (graph : List Node). value_at graph k) same

-- what a graph reaches is reached in one that begins with it, and has the same under it
pub grown_value : (old added : List Node) (k : Descriptor) → has_key old k ≡ true → value_at (old ++ added) k ≡ value_at old k
grown_value old added k held =
    let one = found old k held in
    value_at-append_left old added k one.0 one.1 ∙ sym one.1

reached_in_more : (old added : List Node) (keys : List Descriptor) (k : Descriptor) → Reaches old keys k → Reaches (old ++ added) keys k
reached_in_more old added keys k (start named) = start named
reached_in_more old added keys k (along {from} path edge) = along (reached_in_more old added keys from path) (edge.0, value_at-append_left old added from edge.0 edge.1, edge.2)

-- what was held before a copy and is reached from the keys that a prune after it keeps is held
pub held_stay : (old copied new : List Node) (keys : List Descriptor) → BeginsWith old copied → KeepsReached copied new keys → (k : Descriptor) → Reaches old keys k → has_key old k ≡ true → value_at new k ≡ value_at old k
held_stay old copied new keys begins keeps k reached held =
    let added = begins.0 in
    let reaches : Reaches copied keys k = subst (λ (graph : List Node). Reaches graph keys k) (sym begins.1) (reached_in_more old added keys k reached) in
    keeps k reaches ∙ ap (λ (graph : List Node). value_at graph k) begins.1 ∙ grown_value old added k held

-- ---- what the source reaches

-- what an agreeing source reaches from the roots of a copy, the copy reaches from them too
copied_path : (source old copied : List Node) (roots : List Descriptor) → IsCopied source source roots old copied → (k : Descriptor) → Reaches source roots k → Reaches copied roots k
copied_path source old copied roots is k (start named) = start named
copied_path source old copied roots is k (along {from} path edge) =
    along (copied_path source old copied roots is from path) (edge.0, (is from edge.0).1 (inr (edge.1, path)), edge.2)

-- so a copy that was cleaned up holds all that an honest source reaches from its roots, if the prune
-- kept what they reach
pub reached_kept : {options : Options} {report : Report} (source old copied : State) (roots : List Descriptor) (new : List Node) → IsCopy ⊤ options source old roots copied report → KeepsReached copied.nodes new roots
    → source.is_honest → Agree (graph_of source) old.nodes → (k : Descriptor) → Reaches (graph_of source) roots k → has_key new k ≡ true
reached_kept source old copied roots new copy keeps honest agree k reached =
    ap is_some (keeps k (copied_path (graph_of source) old.nodes copied.nodes roots (copy.graph honest agree) k reached)) ∙ copy.reached honest agree k reached

-- a refused copy keeps the bytes of what was held, if the bytes are known
pub contents_after : (source old copied : State) (roots : List Descriptor) → SameByDigest source.entries source.entries → OnlyGrows ⊤ source old roots copied → IsTrusted source old copied → BeginsWith old.entries copied.entries
contents_after source old copied roots alike grows trusted =
    let grown = grows.grown_content (record { is_honest = trusted.is_honest; is_sound = trusted.is_sound; is_calm = trusted.is_calm; same_old = λ _. trusted.same; same_source = λ _. alike }) in
    (grown.0, grown.1)

-- a copy that was cleaned up once its blobs were on the disk is a mirror
pub mirrored : {D : Type 0} (device : D → Device) (existing : Existing) (is_exact : Bool) (source : State) (roots : List Descriptor) (goal : Goal) (old copied new : LayoutState D) (done : Copied) → copied.tags ≡ old.tags
    → BringsOnlyMet source old.graph roots copied.graph → (source.is_honest → Agree (graph_of source) old.graph → IsCopied (graph_of source) (graph_of source) roots old.graph copied.graph)
    → IsReport existing source (meaning (device old.dir) old.graph old.tags) roots (meaning (device copied.dir) copied.graph copied.tags) done.report → IsCleanedCopySettled device is_exact goal copied new done
    → IsMirrored device existing is_exact source roots goal old new done
mirrored device existing is_exact source roots goal old copied new done tags met copy reported cleaned =
    let s = cleaned.2 in
    record {
      copied = s.settled;
      same_tags = s.tags ∙ tags;
      met = subst (λ (g : List Node). BringsOnlyMet source old.graph roots g) (sym s.graph) met;
      copy = λ honest agree. subst (λ (g : List Node). IsCopied (graph_of source) (graph_of source) roots old.graph g) (sym s.graph) (copy honest agree);
      reported = record { planned = reported.planned; pushed = reported.pushed; gained = ap length s.graph ∙ reported.gained; skipped = reported.skipped };
      cleaned = (cleaned.0, cleaned.1, s.cleaned);
    }

-- ---- results

-- a consequence of a refusal
pub err_gives : {X E : Type 0} {P Q : Type 0} (r : Result X E) → (P → Q) → OnErr r P → OnErr r Q
err_gives (Ok x) gives p = p
err_gives (Err e) gives p = gives p

-- a consequence of the success of a copy and of its clean-up
pub report_gives : {X Y E F : Type 0} (R : X → Type 0) {S T : Y → Type 0} (copied : Result X E) (done : Result Y F) (report_of : Y → X) → ((y : Y) → R (report_of y) → S y → T y)
    → IfOk done (λ it. copied ≡ Ok (report_of it)) → IfOk copied R → IfOk done S → IfOk done T
report_gives R copied (Ok y) report_of gives same holds also = gives y (IfOk-at_ok R same holds) also
report_gives R copied (Err e) report_of gives same holds also = also

-- a consequence of the success of a copy and of its clean-up
pub both_give : {X Y E F : Type 0} {R : X → Type 0} {S T : Type 0} (copied : Result X E) (done : Result Y F) (report_of : Y → X) → ((x : X) → R x → S → T) → IfOk done (λ it. copied ≡ Ok (report_of it)) → IfOk copied R → OnOk done S → OnOk done T
both_give {R = R} copied (Ok y) report_of gives same holds also = gives (report_of y) (IfOk-at_ok R same holds) also
both_give copied (Err e) report_of gives same holds also = also
