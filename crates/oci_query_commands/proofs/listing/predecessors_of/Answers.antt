use Rattle.std.proofs.Common.{◌≡◌, ℕ, List, true, false, nat_eq, sym, ap, subst, ◌∙◌}
use Rattle.std.specs.Prelude.{Contains}
use Rattle.oci_manifest.specs.Descriptor.{Descriptor}
use Rattle.oci_query_commands.proofs.Listers.{some_types}
use Rattle.oci_query_commands.proofs.listing.predecessors_of.Goals as goal

pub returns : goal.returns
returns g c = record {
  all = λ none. absurd (some_types c.args.types.now (λ empty. let never : false ≡ true = sym c.if-is_empty.false ∙ c.is_empty.ensures ∙ ap (λ (n : ℕ). nat_eq n 0) empty in cc never) none);
  typed = λ some honest other.
      let found = c.in_ok-referrers_of_types.ensures.exact honest other in
      let each = c.in_ok-listing.ensures.each other in (
        λ h.
            let p = found.0 h in
            (each.0 (subst (λ (ks : List Descriptor). Contains ks other) c.deref.ensures.value p.0), p.1, p.2),
        λ p. found.1 (subst (λ (ks : List Descriptor). Contains ks other) (sym c.deref.ensures.value) (each.1 p.0), p.1, p.2),
      );
}
