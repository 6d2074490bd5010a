use Rattle.oci_prune.proofs.orphans.untag_orphans.Goals as goal

pub returns-clause-lost : goal.returns-clause-lost
returns-clause-lost g c = record {
  held = c.in_ok-held.held.items;
  are_held = c.in_ok-held.ensures;
  wanted = c.in_ok-wanted.wanted;
  are_wanted = c.in_ok-wanted.ensures.wanted;
  tags = rw (c.deref.ensures.value, c.deref-2.ensures.value, c.in_ok-staying.ensures.keys) at c.in_ok-gone.ensures.tags;
  each = rw (c.deref.ensures.value, c.deref-2.ensures.value, c.in_ok-staying.ensures.keys) at c.in_ok-gone.ensures.gone;
}
