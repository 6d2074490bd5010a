use Rattle.std.proofs.Common.{◌≡◌, ◌∙◌, sym, subst, rules}
use Rattle.std.specs.Cmp.Lexicographic.{slice_cmp}
use Rattle.std.specs.List.Sorted.{IsStrictlySortedBy}
use Rattle.std.specs.Map.{keys_of}
use Rattle.std.specs.Ordering.{nat_cmp}
use Rattle.oci_store.specs.Tags.{Tags, by_bytes}
use Rattle.oci_store.proofs.TagNames.{sorted_by_bytes}
use Rattle.oci_store.proofs.tags.Tags.to_vec.Goals as goal

pub returns-clause-order : goal.returns-clause-order
returns-clause-order c =
    let all : by_bytes c.loop-name.tags.items ≡ c.args.self.now = search rules in
    subst (λ (tags : Tags). IsStrictlySortedBy (slice_cmp nat_cmp) (keys_of tags)) (c.self.view_is ∙ sym all) (sorted_by_bytes c.self.inside.keys.entries c.iter-name-items.ensures.ordered)
