use Rattle.std.proofs.Common.{◌≡◌, ◌+◌, ◌++◌, ◌∷◌, [], ℕ, Bool, List, cond, filter, length, take, sym, ap, ◌∙◌, arith}
use Rattle.std.specs.Option.{option_copied}
use Rattle.std.proofs.lemmas.List.{take_more}
use Rattle.oci_manifest.specs.Descriptor.{Descriptor}
use Rattle.oci_verify.specs.Corrupt.{is_asked}
use Rattle.oci_query_commands.proofs.Below.{counted}
use Rattle.oci_query_commands.proofs.verify.count_among.Goals as goal

pub loop-key-preserved : goal.loop-key-preserved
loop-key-preserved c =
    let test = is_asked (option_copied c.args.asked) in
    let keys = c.args.keys.now in
    let place = c.loop-key.key-index in
    let key = c.key-item.result in
    let next : take (place + 1) keys ≡ take place keys ++ key ∷ [] = take_more keys place key c.loop-key-test.true ∙ ap (λ (x : Descriptor). take place keys ++ x ∷ []) (sym c.key-item.is) in
    record {
      counted = ap (λ (n : ℕ). n + c.one_if-count.result) c.loop-key.invariant.counted
          ∙ ap (λ (n : ℕ). length (filter test (take place keys)) + n) (c.one_if-count.ensures.count ∙ ap (λ (b : Bool). cond b 1 0) c.is_asked.ensures)
          ∙ sym (counted test (take place keys) key)
          ∙ ap (λ (ks : List Descriptor). length (filter test ks)) (sym next);
      few = omega (arith, c.loop-key.invariant.few, c.one_if-count.ensures.most);
    }
