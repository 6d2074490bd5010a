use Rattle.std.proofs.Common.{[], ◌∷◌, refl, sym, ap, ◌∙◌, rules}
use Rattle.std.proofs.lemmas.List.{map-append, length-map}
use Rattle.std.proofs.lemmas.Result.{err_from_is_err_and}
use Rattle.oci_store.specs.Graph.{node_of, nodes_of}
use Rattle.test_support.specs.Files.{Changes}
use Rattle.test_support.proofs.Files.{written-put, written-pushed, written-sound}
use Rattle.test_support.proofs.device.DeviceStoreDest.push_checked.Goals as goal

pub returns-in_err-push-clause-pushed : goal.returns-in_err-push-clause-pushed
returns-in_err-push-clause-pushed c =
    let s = c.self.inside in
    let content = c.args.content in
    let changes : Changes s.files.entries c.put-2.new.files.entries content.0.digest content.1 = rw (c.key-2.ensures, c.as_slice-bytes.ensures, c.bytes.ensures.bytes) at c.in_ok-put.ensures.put in
    let p = err_from_is_err_and c.from_residual-in_err-push.result c.from_residual-in_err-push.ensures.1 in
    rw (p.1, p.2, ← c.self.view_is, c.in_err-push.ensures.refused) (record {
      keys = search rules;
      bytes = record {
        pushed = tt;
        refused = λ u. written-put s.files.entries c.put-2.new.files.entries content.0 content.1 s.held changes (u.agrees tt);
        sound = λ u. written-put s.files.entries c.put-2.new.files.entries content.0 content.1 s.held changes (u.agrees tt) ∙ u.is_sound;
      };
      failures = search rules;
      device = search rules;
      calm = search rules;
      halted = search rules;
      running = search rules;
      taken = tt;
      stays = λ halted. halted;
      tags = refl;
      name = refl;
      lasts = λ entries tags agrees was. was;
    })

pub returns-clause-pushed : goal.returns-clause-pushed
returns-clause-pushed c =
    let s = c.self.inside in
    let content = c.args.content in
    let changes : Changes s.files.entries c.put-2.new.files.entries content.0.digest content.1 = rw (c.key-2.ensures, c.as_slice-bytes.ensures, c.bytes.ensures.bytes) at c.in_ok-put.ensures.put in
    rw (← c.self.view_is) (record {
      keys = record {
        place = c.in_ok-push.ensures.place ∙ sym (length-map s.held node_of);
        pushed = ap nodes_of c.in_ok-push.ensures.pushed ∙ map-append node_of s.held (content ∷ []);
        refused = tt;
        checked = rw (c.graph.ensures) at c.in_ok-check_closed.ensures.checked.0;
      };
      bytes = record {
        pushed = λ u. written-pushed s.files.entries c.put-2.new.files.entries content.0 content.1 s.held c.push.new.self changes (u.agrees tt) c.in_ok-push.ensures.pushed;
        refused = tt;
        sound = λ u. written-sound s.files.entries c.put-2.new.files.entries content.0 content.1 s.held c.push.new.self changes (u.agrees tt) u.is_sound c.in_ok-push.ensures.pushed;
      };
      failures = search rules;
      device = search rules;
      calm = search rules;
      halted = search rules;
      running = search rules;
      taken = λ halted. halted;
      stays = λ halted. halted;
      tags = refl;
      name = refl;
      lasts = λ entries tags agrees was. was;
    })
