use Rattle.std.proofs.Common.{◌≡◌, true, false, [], length, Ok, sym, ◌∙◌}
use Rattle.oci_digest.proofs.DigestLemmas.{IsDigest-from_Verifies}
use Rattle.oci_store.specs.Keyed.{has_key}
use Rattle.oci_store.specs.Push.{closed_check}
use Rattle.oci_store.proofs.Checks.{IsPush-refused, closed_check-held}
use Rattle.oci_store.proofs.Contents.{IsNew-from_checked}
use Rattle.oci_store.proofs.Leaves.{IsChecked-leaf, closed_check-leaf, leaf_check-held, leaf_check-fresh, IsLostPush-refused}
use Rattle.oci_layout_store.specs.Blobs.{blob_path}
use Rattle.oci_dir.specs.Crash.{LeavesPut}
use Rattle.oci_dir.specs.Device.{IsPut}
use Rattle.oci_layout_store.specs.Push.{Settles}
use Rattle.oci_layout_store.proofs.Crash.{Lasts-no_more, Lasts-put}
use Rattle.oci_layout_store.proofs.Pushed.{IsLayout-settled, IsPush-settled, IsLostPush-settled}
use Rattle.oci_layout_store.proofs.layout.dest.LayoutDest.push_draft.Goals as goal

pub returns-then-holds-clause-pushed : goal.returns-then-holds-clause-pushed
returns-then-holds-clause-pushed g c bytes drafted m =
    let held : has_key c.self.inside.graph c.args.key.now ≡ true = sym c.holds.ensures ∙ c.if-holds.true in
    IsPush-refused _ _ (c.args.key.now, bytes) _ tt (rw (← c.self.view_is) (closed_check-held c.self.inside.graph c.args.key.now bytes held))

pub returns-then-holds-clause-lost : goal.returns-then-holds-clause-lost
returns-then-holds-clause-lost g c lost =
    let held : has_key c.self.inside.graph c.args.key.now ≡ true = sym c.holds.ensures ∙ c.if-holds.true in
    IsLostPush-refused _ c.args.key.now _ tt (rw (← c.self.view_is) (leaf_check-held c.self.inside.graph c.args.key.now held))

pub returns-clause-untouched : goal.returns-clause-untouched
returns-clause-untouched g c =
    let fresh = leaf_check-fresh c.self.inside.graph c.args.key.now (sym c.holds.ensures ∙ c.if-holds.false) in
    rw (← c.self.view_is, fresh) (λ h. cc h)

pub invariant_of-self-2 : goal.invariant_of-self-2
invariant_of-self-2 g c =
    let s = c.self.inside in
    let put = rw (c.deref.ensures, c.in_ok-path.ensures) at c.keep-answer.ensures.put in (
      IsLayout-settled (g.D.Dir.device s.dir) (g.D.Dir.device c.keep-answer.new.self) s.graph c.push.new.self c.settle.new.graph s.tags (c.args.key.now, c.new.result.items)
          c.digest.result.now _ c.len-place.result c.keep-answer.result c.settle.result c.in_ok-push.ensures.pushed put c.settle.ensures c.self.invariant.0,
      tt,
    )

pub returns-clause-pushed : goal.returns-clause-pushed
returns-clause-pushed g c =
    let s = c.self.inside in
    let k = c.args.key.now in
    let ks = c.new.result.items in
    let old = g.D.Dir.device s.dir in
    let new = g.D.Dir.device c.keep-answer.new.self in
    let put : IsPut old new (blob_path k.digest) (g.D.Draft.Drafting.drafted c.args.draft) c.keep-answer.result = rw (c.deref.ensures, c.in_ok-path.ensures, c.digest.ensures) at c.keep-answer.ensures.put in
    let left : old.is_honest → LeavesPut old new (blob_path k.digest) (g.D.Draft.Drafting.drafted c.args.draft) = rw (c.deref.ensures, c.in_ok-path.ensures, c.digest.ensures) at c.keep-answer.ensures.left in
    let absent : has_key s.graph k ≡ false = sym c.holds.ensures ∙ c.if-holds.false in
    let settled : Settles (length s.graph) c.push.new.self c.settle.new.graph c.keep-answer.result c.settle.result = rw c.len-place.ensures.count at c.settle.ensures in
    rw (← c.self.view_is)
    (λ bytes drafted m.
    let checked : closed_check s.graph k bytes ≡ Ok [] = closed_check-leaf s.graph k bytes c.requires.leaf m ∙ leaf_check-fresh s.graph k absent in
    let passed = IsNew-from_checked s.graph k bytes ks absent (IsChecked-leaf k bytes ks c.requires.leaf m c.new.ensures.items) in
    IsPush-settled old new s.graph c.push.new.self c.settle.new.graph s.tags k bytes ks [] _ c.keep-answer.result c.settle.result
    c.len-place.ensures.keys passed checked drafted c.in_ok-push.ensures.pushed put settled
    (λ entries names. Lasts-put old new entries names k bytes _ (IsDigest-from_Verifies k.digest bytes m.1) drafted put.device.honest.0 left))

pub returns-clause-lost : goal.returns-clause-lost
returns-clause-lost g c =
    let s = c.self.inside in
    let k = c.args.key.now in
    let put = rw (c.deref.ensures, c.in_ok-path.ensures, c.digest.ensures) at c.keep-answer.ensures.put in
    let absent : has_key s.graph k ≡ false = sym c.holds.ensures ∙ c.if-holds.false in
    rw (← c.self.view_is)
    (λ lost. IsLostPush-settled (g.D.Dir.device s.dir) (g.D.Dir.device c.keep-answer.new.self) s.graph c.push.new.self c.settle.new.graph s.tags k c.new.result.items _ c.len-place.result
    c.keep-answer.result c.settle.result absent (c.keep-answer.ensures.lost lost) c.in_ok-push.ensures.pushed put c.settle.ensures
    (λ entries names. Lasts-no_more (g.D.Dir.device s.dir) (g.D.Dir.device c.keep-answer.new.self) entries names c.keep-answer.ensures.put.device.honest.0 (c.keep-answer.ensures.lost_left lost)))
