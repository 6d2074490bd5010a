use Rattle.std.proofs.Common.{inl, inr, [], refl}
use Rattle.oci_store.proofs.Leaves.{IsChecked-leaf, drafted-from_read}
use Rattle.oci_copy.proofs.Pushes.{brought, refused, refused_lost}
use Rattle.oci_copy.proofs.single.push_parts.Goals as goal

pub push_draft-requires-clause-matching : goal.push_draft-requires-clause-matching
push_draft-requires-clause-matching g c = drafted-from_read c.in_ok-draft_planned.ensures

pub returns-in-Ok-push_draft : goal.returns-in-Ok-push_draft
returns-in-Ok-push_draft g c =
    elim c.in_ok-draft_planned.ensures [
      | inl lost ↦ absurd (c.in-Ok-push_draft.ensures.lost lost).keys.refused
      | inr drafted ↦
          let own = drafted.1 in
          brought {new = g.D.Store.state c.push_draft.new.self} c.requires.can (IsChecked-leaf c.args.key.now drafted.0 [] c.requires.leaf own.matching refl) own.own (c.in-Ok-push_draft.ensures.pushed drafted.0 own.is_drafted own.matching)
    ]

pub returns-in-Err : goal.returns-in-Err
returns-in-Err g c =
    elim c.in_ok-draft_planned.ensures [
      | inl lost ↦ refused_lost {shares = g.D.Dest.shares} {new = g.D.Store.state c.push_draft.new.self} c.requires.can (c.in-Err.ensures.lost lost) c.push_fault.ensures
      | inr drafted ↦
          let own = drafted.1 in
          refused {new = g.D.Store.state c.push_draft.new.self} c.requires.can (IsChecked-leaf c.args.key.now drafted.0 [] c.requires.leaf own.matching refl) own.own (c.in-Err.ensures.pushed drafted.0 own.is_drafted own.matching) c.push_fault.ensures
    ]
