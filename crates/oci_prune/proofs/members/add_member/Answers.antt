use Rattle.std.proofs.Common.{◌≡◌, true, cond, subst}
use Rattle.std.specs.BTreeSet.{contains}
use Rattle.std.specs.Ordering.{is_eq}
use Rattle.oci_manifest.specs.Descriptor.{Descriptor, key_cmp}
use Rattle.oci_layout_store.proofs.Loose.{set_more}
use Rattle.oci_prune.proofs.members.add_member.Goals as goal

pub returns : goal.returns
returns c =
    set_more c.args.members.now c.insert.new.self c.args.key.now
    (λ other. subst (λ (k : Descriptor). contains key_cmp c.insert.new.self other ≡ cond (is_eq (key_cmp k other)) true (contains key_cmp c.args.members.now other)) c.in_ok-try_clone.ensures (c.in_ok-insert.ensures.updates.0 other))
