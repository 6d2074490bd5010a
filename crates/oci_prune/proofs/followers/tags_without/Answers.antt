use Rattle.std.proofs.Common.{◌≡◌, ℕ, List, Bool, true, false, not, ◌||◌, string_bytes, sym, ap, ◌∙◌}
use Rattle.std.specs.BTreeSet.{contains_text}
use Rattle.oci_manifest.specs.Descriptor.{Descriptor}
use Rattle.oci_prune.specs.Attached.{follows_one, is_stem_of, names_digest, stem}
use Rattle.oci_prune.proofs.Following.{tags_kept, tags_passed}
use Rattle.oci_prune.proofs.followers.tags_without.Goals as goal

pub loop-name-preserved-then-not-branch : goal.loop-name-preserved-then-not-branch
loop-name-preserved-then-not-branch c =
    let P : List ℕ × Descriptor → Bool = λ (t : List ℕ × Descriptor). not (follows_one c.args.keys.now t.0) || names_digest t.0 t.1.digest in
    let name = string_bytes c.loop-name-item.result.0 in
    let digest = c.loop-name-item.result.1.digest in
    let test : P (name, c.loop-name-item.result.1) ≡ false =
    ap (λ (b : Bool). not b || is_stem_of (stem name) digest) (sym (c.in_ok-stems.ensures (stem name)))
    ∙ ap (λ (t : List ℕ). not (contains_text c.in_ok-stems.stems (stem t)) || is_stem_of (stem t) digest) (sym c.deref.ensures) ∙ sym c.in_ok-is_independent.ensures ∙ c.if-not-branch.true in
    tags_passed P c.args.tags.now c.loop-name.found.items c.loop-name.name-index c.loop-name-item.result c.loop-name-test.true c.loop-name-item.is c.loop-name.invariant test

pub loop-name-preserved : goal.loop-name-preserved
loop-name-preserved c =
    let P : List ℕ × Descriptor → Bool = λ (t : List ℕ × Descriptor). not (follows_one c.args.keys.now t.0) || names_digest t.0 t.1.digest in
    let name = string_bytes c.loop-name-item.result.0 in
    let digest = c.loop-name-item.result.1.digest in
    let test : P (name, c.loop-name-item.result.1) ≡ true =
    ap (λ (b : Bool). not b || is_stem_of (stem name) digest) (sym (c.in_ok-stems.ensures (stem name)))
    ∙ ap (λ (t : List ℕ). not (contains_text c.in_ok-stems.stems (stem t)) || is_stem_of (stem t) digest) (sym c.deref.ensures) ∙ sym c.in_ok-is_independent.ensures ∙ c.if-not-branch.false in
    rw c.in_ok-push.ensures.items
    (tags_kept P c.args.tags.now c.loop-name.found.items c.loop-name.name-index c.loop-name-item.result (c.in_ok-clone.field-0, c.in_ok-try_clone.field-0) c.loop-name-test.true c.loop-name-item.is c.loop-name.invariant test c.in_ok-clone.ensures.cases
    c.in_ok-try_clone.ensures)
