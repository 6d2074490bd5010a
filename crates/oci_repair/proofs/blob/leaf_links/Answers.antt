use Rattle.std.proofs.Common.{◌≡◌, true, false, inl, inr, sym, ◌∙◌, refl}
use Rattle.oci_layout_store.proofs.Walk.{leaf_lists}
use Rattle.oci_repair.proofs.Whole.{leaf_matches, not_of}
use Rattle.oci_repair.proofs.blob.leaf_links.Goals as goal

pub returns-then-branch : goal.returns-then-branch
returns-then-branch g c =
    let dir = g.D.Dir.device c.args.dir.now in
    let k = c.args.key.now in
    record {
      found = λ honest. (elim (c.in_ok-copy_blob.ensures.matching (c.if-branch.true)) [
        | inl lost ↦ absurd lost
        | inr m ↦ (leaf_matches dir.file k m.0 c.requires.leaf (m.1.own honest) m.1.matching, c.new.ensures.items ∙ sym (leaf_lists dir.file k c.requires.leaf))
      ]);
      failed = λ h. cc h;
    }

pub returns : goal.returns
returns g c =
    let dir = g.D.Dir.device c.args.dir.now in
    let k = c.args.key.now in
    record {
      found = λ honest. not_of dir.file k (c.in_ok-copy_blob.ensures.other c.if-branch.false honest);
      failed = λ h. cc h;
    }
