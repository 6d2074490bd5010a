use Rattle.std.proofs.Common.{◌≡◌, ◌⊎◌, ℕ, true, List, Some, refl, subst, arith}
use Rattle.std.proofs.lemmas.Result.{IfOk-weaker}
use mathlib.Core.List.{IsPrefix}
use Rattle.oci_manifest.specs.Descriptor.{Descriptor}
use Rattle.oci_store.specs.Content.{Entry}
use Rattle.oci_store.specs.Copied.{Agree}
use Rattle.oci_store.specs.Graph.{nodes_of, Reaches}
use Rattle.oci_store.specs.GraphLaws.{keys_of-nodes_of}
use Rattle.oci_store.specs.Keyed.{value_at, has_key}
use Rattle.oci_store.specs.State.{in_memory}
use Rattle.oci_store.proofs.Lookups.{value_at-append_left, has_key-append_left, has_key-same_keys}
use Rattle.oci_live.specs.Live.{state_of}
use Rattle.oci_copy.specs.Copy.{IsCopy}
use Rattle.oci_copy.specs.Grown.{HasKnownBytes}
use Rattle.oci_copy.specs.declared.report.Report.{Report}
use Rattle.oci_copy.proofs.Headline.{Agree-nodes_of}
use Rattle.test_live.proofs.telling.copy_and_tell.Goals as goal

pub returns-clause-copied : goal.returns-clause-copied
returns-clause-copied g c =
    let s = c.args.source.now in
    let d = c.args.live in
    let n = c.copy_graph-live.result.0 in
    let shown = c.learn-2.new.self.entries in
    let told : IsPrefix n.entries shown = subst (λ (es : List Entry). IsPrefix es shown) c.note.ensures.entries c.learn-2.ensures.told in
    let known : HasKnownBytes ⊥ (in_memory s.entries s.tags) (state_of d) (state_of n) = record { is_honest = tt; is_sound = tt; is_calm = (refl, omega arith); same_old = λ shared. absurd shared; same_source = λ shared. absurd shared } in
    IfOk-weaker c.copy_graph-live.result.1
    (λ (r : Report). IsCopy ⊥ c.args.options.now (in_memory s.entries s.tags) (state_of d) c.args.roots.now (state_of n) r)
    (λ (r : Report). Agree s.entries d.entries → (k : Descriptor) (bytes : List ℕ) → (value_at d.entries k ≡ Some bytes) ⊎ ((value_at s.entries k ≡ Some bytes) × Reaches (nodes_of s.entries) c.args.roots.now k) → value_at shown k ≡ Some bytes)
    (λ r copy agree k bytes either. subst (λ (es : List Entry). value_at es k ≡ Some bytes) told.1 (value_at-append_left n.entries told.0 k bytes ((copy.content known agree k bytes).1 either)))
    c.copy_graph-live.ensures.copied

pub returns-clause-reached : goal.returns-clause-reached
returns-clause-reached g c =
    let s = c.args.source.now in
    let d = c.args.live in
    let n = c.copy_graph-live.result.0 in
    let shown = c.learn-2.new.self.entries in
    let told : IsPrefix n.entries shown = subst (λ (es : List Entry). IsPrefix es shown) c.note.ensures.entries c.learn-2.ensures.told in
    IfOk-weaker c.copy_graph-live.result.1
    (λ (r : Report). IsCopy ⊥ c.args.options.now (in_memory s.entries s.tags) (state_of d) c.args.roots.now (state_of n) r)
    (λ (r : Report). Agree s.entries d.entries → (k : Descriptor) → Reaches (nodes_of s.entries) c.args.roots.now k → has_key shown k ≡ true)
    (λ r copy agree k there. subst (λ (es : List Entry). has_key es k ≡ true) told.1 (has_key-append_left n.entries told.0 k
    (has_key-same_keys (nodes_of n.entries) n.entries k (keys_of-nodes_of n.entries) (copy.reached tt (Agree-nodes_of s.entries d.entries agree) k there))))
    c.copy_graph-live.ensures.copied
