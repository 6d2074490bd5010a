use Rattle.std.proofs.Common.{◌≡◌, false, List, sym, subst, ◌∙◌, rules}
use Rattle.std.specs.List.{All, IsDistinct}
use Rattle.std.proofs.lemmas.List.Elements.{All-nil}
use Rattle.oci_manifest.specs.Descriptor.{Descriptor, same_key}
use Rattle.oci_store.specs.Keyed.{has_key}
use Rattle.oci_plan.specs.Met.{IsListedUnder}
use Rattle.oci_plan.proofs.Items.{absent_lists}
use Rattle.oci_plan.proofs.gathering.successors.visited_successors.Goals as goal

pub returns-then-not-exists-clause-lists : goal.returns-then-not-exists-clause-lists
unfolding IsDistinct
returns-then-not-exists-clause-lists g c =
    let none : has_key (g.A.Store.state c.args.source.now).entries c.args.key.now ≡ false = search rules in
    record {
      listed = λ _. c.new.ensures.items ∙ absent_lists (g.A.Store.state c.args.source.now).entries c.args.key.now none;
      under = subst (λ (ks : List Descriptor). All (IsListedUnder (g.A.Store.state c.args.source.now).entries c.args.key.now) ks) (sym c.new.ensures.items) (All-nil (IsListedUnder (g.A.Store.state c.args.source.now).entries c.args.key.now));
      distinct = subst (λ (ks : List Descriptor). IsDistinct same_key ks) (sym c.new.ensures.items) tt;
    }
