use Rattle.std.proofs.Common.{◌≡◌, ℕ, List, [], ◌∷◌, ◌++◌, sym, subst, ap, ◌∙◌}
use Rattle.std.specs.Prelude.{◌↔◌, ◌⊎◌, Contains}
use Rattle.std.proofs.lemmas.List.{map-append}
use Rattle.oci_dir.specs.Prunable.{by_name}
use Rattle.oci_dir.proofs.Listed.{IsAt, noted-one}
use Rattle.oci_dir.proofs.mem_dir.note_file.Goals as goal

pub returns : goal.returns
returns c =
    let name = c.in-Some.name.now in
    let old = by_name c.args.found.now.items in
    let text = c.in_ok-from_str.field-0 in
    let more : by_name c.push.new.self.items ≡ old ++ (name, c.args.length) ∷ [] =
    ap by_name c.in_ok-push.ensures.items ∙ map-append _ c.args.found.now.items ((text, c.args.length) ∷ []) ∙ ap (λ (n : List ℕ). old ++ (n, c.args.length) ∷ []) c.in_ok-from_str.ensures.ok in
    subst (λ (found : List (List ℕ × ℕ)). (n : List ℕ) (size : ℕ) → Contains found (n, size) ↔ (Contains old (n, size) ⊎ IsAt c.args.folder.now c.args.path.now c.args.length n size)) (sym more)
    (noted-one old c.args.folder.now c.args.path.now name c.args.length c.in-Some.ensures.0 c.in-Some.ensures.1)
