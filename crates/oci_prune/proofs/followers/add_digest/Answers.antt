use Rattle.std.proofs.Common.{true, take, string_bytes, ap, ◌∙◌}
use Rattle.std.proofs.lemmas.Map.Text.{btree_set_updates_text}
use Rattle.oci_prune.proofs.Stems.{stems_added}
use Rattle.oci_prune.proofs.followers.add_digest.Goals as goal

pub returns : goal.returns
returns c =
    let short = c.in_ok-short.short in
    let whole = c.in_ok-text.text in
    stems_added c.args.stems.now c.insert.new.self c.insert-2.new.self (string_bytes short) (string_bytes whole) c.args.digest.now (c.in_ok-short.ensures.ok ∙ c.cut.ensures ∙ ap (take 71) (c.as_str.ensures.value ∙ c.in_ok-text.ensures.text)) c.in_ok-text.ensures.text
    (btree_set_updates_text (string_bytes short) c.args.stems.now c.insert.new.self true c.in_ok-insert.ensures.updates) (btree_set_updates_text (string_bytes whole) c.insert.new.self c.insert-2.new.self true c.in_ok-insert-2.ensures.updates)
