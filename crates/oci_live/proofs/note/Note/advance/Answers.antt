use Rattle.std.proofs.Common.{◌≡◌, ◌≤◌, length, ap, ◌∙◌, sym, subst, ⊎_elim, arith}
use mathlib.Core.List.{IsPrefix}
use Rattle.oci_live.proofs.Prefixes.{prefix_whole}
use Rattle.oci_live.proofs.note.Note.advance.Goals as goal

pub returns-clause-shown : goal.returns-clause-shown
returns-clause-shown c _ =
    let old = c.args.self.now.entries in
    let new = c.learn.new.self.entries in
    let log = c.args.witness.log in
    let was : c.self.inside.witness.log ≡ old = ap (λ p. p.entries) c.self.view_is in
    let few : length old ≤ length log = omega (arith, c.self.invariant.len, ap length was, c.requires.list.len, c.if-len-self.false) in
    ⊎_elim (λ (same : new ≡ old). same ∙ sym (prefix_whole log old (subst (λ l. IsPrefix log l) same c.learn.ensures.told) few)) (λ (is : new ≡ log). is) c.learn.ensures.one
