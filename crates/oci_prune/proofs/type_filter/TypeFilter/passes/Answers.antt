use Rattle.std.proofs.Common.{◌≡◌, ℕ, true, List, nat_cmp, sym, subst, ◌∙◌}
use Rattle.std.specs.BTreeSet.{contains}
use Rattle.std.specs.Cmp.Lexicographic.{slice_cmp}
use Rattle.std.proofs.lemmas.Result.{IfOk-weaker}
use Rattle.oci_prune.proofs.type_filter.TypeFilter.passes.Goals as goal

pub returns-else-not-contains : goal.returns-else-not-contains
returns-else-not-contains c =
    let has : contains (slice_cmp nat_cmp) c.in-OneOf.subjects.now c.args.subject.now.digest ≡ true = subst (λ (d : List ℕ). contains (slice_cmp nat_cmp) c.in-OneOf.subjects.now d ≡ true) c.digest.ensures (sym c.contains.ensures ∙ c.if-not-contains.false) in
    rw c.in-OneOf.is (IfOk-weaker c.is_of_types.result _ _ (λ b iff. (λ passed reached. iff.0 passed, λ passes. iff.1 (passes has))) c.is_of_types.ensures)
