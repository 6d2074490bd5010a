use Rattle.oci_pool.proofs.running.ending.answer.Goals as goal

pub returns-in-Some-first_missing : goal.returns-in-Some-first_missing
returns-in-Some-first_missing g c = record {
  results = c.list_done-done-in-Some-first_missing.ensures.done;
  cause = tt;
  reported = (
    c.requires.workers,
    c.in-Some-first_missing.ensures.within,
    c.list_done-done-in-Some-first_missing.ensures.absent c.in-Some-first_missing.k c.in-Some-first_missing.ensures.within c.in-Some-first_missing.ensures.missing,
  );
}
