use Rattle.std.proofs.Common.{List, ℕ, ◌++◌, ap, ◌∙◌}
use Rattle.std.proofs.lemmas.Fmt.{contents_after_writes}
use Rattle.oci_manifest.proofs.key.text_of.Goals as goal

pub returns : goal.returns
returns c =
    let digest = c.args.digest.now in
    contents_after_writes _ (λ t. t.bytes) (λ _ _ _ t. t) c.new-text.result digest c.write.new.self c.in_ok-write.ensures.writes
    ∙ ap (λ (l : List ℕ). l ++ digest) c.new-text.ensures
