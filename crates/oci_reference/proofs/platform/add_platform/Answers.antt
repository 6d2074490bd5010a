use Rattle.std.proofs.Common.{Option, map, option_map, string_bytes, String, Global, sym, ap, ◌∙◌}
use Rattle.oci_reference.specs.Platform.{with_platform}
use Rattle.oci_reference.proofs.Stated.{with_platform-known, with_platform-new}
use Rattle.oci_reference.proofs.platform.add_platform.Goals as goal

pub returns-in_ok-push : goal.returns-in_ok-push
returns-in_ok-push c =
    let texts = c.args.platforms.now.items in
    ap (map string_bytes) c.in_ok-push.ensures.items
    ∙ with_platform-new texts c.in-Some.platform (sym (rw (c.deref.ensures.value, c.deref-2.ensures) at c.has_text.ensures) ∙ c.if-not-has_text.true)
    ∙ ap (λ (o : Option (String Global)). with_platform (map string_bytes texts) (option_map string_bytes o)) (sym c.in-Some.is)

pub returns-else-not-has_text : goal.returns-else-not-has_text
returns-else-not-has_text c =
    let texts = c.args.platforms.now.items in
    with_platform-known texts c.in-Some.platform (sym (rw (c.deref.ensures.value, c.deref-2.ensures) at c.has_text.ensures) ∙ c.if-not-has_text.false)
    ∙ ap (λ (o : Option (String Global)). with_platform (map string_bytes texts) (option_map string_bytes o)) (sym c.in-Some.is)
