use Rattle.oci_store.specs.Tags.{by_bytes}
use Rattle.oci_prune.specs.Typed.{StatesBy}
use Rattle.oci_prune.proofs.Following.{are_attachments}
use Rattle.oci_prune.proofs.attachments.Attachments.of.Goals as goal

pub returns-clause-exact : goal.returns-clause-exact
returns-clause-exact g c = λ honest.
    are_attachments (StatesBy (g.S.Store.state c.args.source.now).entries c.args.filter.now) c.args.held.now (by_bytes c.args.tags.now) (record { referrers = c.in_ok-referrers.referrers; followers = c.in_ok-followers.followers }) (c.in_ok-referrers.ensures.exact honest)
    c.in_ok-followers.ensures
