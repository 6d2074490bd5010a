use Rattle.std.proofs.Common.{◌≡◌, ◌<◌, length, List, [], ◌∷◌, ℕ, subst, rules}
use Rattle.std.specs.Borrow.{Bor}
use Rattle.oci_tag_commands.specs.Mem.{algorithm_of}
use Rattle.oci_tag_commands.proofs.Items.{types_pushed, digest_pushed, last_pushed}
use Rattle.oci_tag_commands.proofs.mem.push_items.Goals as goal

pub loop-item-preserved : goal.loop-item-preserved
loop-item-preserved g c =
    let a = algorithm_of c.args.words.now.algorithm in
    let items = c.args.words.now.items.items in
    let i = c.loop-item.item-index in
    let old = c.loop-item.store in
    let new = c.push_item.new.store in
    let k = c.in_ok-key.key in
    let p = rw c.deref-item-items.ensures.value at c.in_ok-key.ensures in
    let within = subst (λ (xs : List (Bor (List ℕ))). i < length xs) c.deref-item-items.ensures.value c.loop-item-test.true in
    let last : c.push.new.self.items ≡ k ∷ [] = search rules in (
      types_pushed a items i _ old new k within p c.loop-item.invariant.0,
      digest_pushed a _ old new k p c.loop-item.invariant.1,
      last_pushed a _ old new k c.push.new.self.items p last,
    )
