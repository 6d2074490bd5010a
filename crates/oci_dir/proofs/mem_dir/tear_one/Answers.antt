use Rattle.std.proofs.Common.{ℕ, List, Option, inl, inr, refl, subst}
use Rattle.std.specs.Prelude.{IsSome}
use Rattle.std.specs.Str.{bytes_eq}
use Rattle.std.proofs.lemmas.Bool.{cases_Bool}
use Rattle.std.proofs.lemmas.Slice.Eq.{bytes_eq-Decides}
use Rattle.oci_dir.specs.Memory.{files_of}
use Rattle.oci_dir.proofs.Answers.{on_ok-map}
use Rattle.oci_dir.proofs.mem_dir.tear_one.Goals as goal

pub returns-in-Some : goal.returns-in-Some
returns-in-Some c =
    let path = c.args.path.now in
    let there : IsSome (files_of c.args.torn.now path) = subst (λ (o : Option (List ℕ)). IsSome o) c.in-Some.ensures.value refl in
    on_ok-map c.write.result _ _ c.write.ensures.put
    (λ puts q. elim (cases_Bool (bytes_eq path q)) [
      | inl same ↦ inr (subst (λ (p : List ℕ). IsSome (files_of c.args.torn.now p)) ((bytes_eq-Decides path q).0 same) there)
      | inr apart ↦ inl (rw apart at (puts q))
    ])
