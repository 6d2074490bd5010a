use Rattle.std.proofs.Common.{sym, ◌∙◌}
use Rattle.oci_copy_commands.proofs.copy.copy_layout.Goals as goal

pub returns : goal.returns
returns g c none =
    let opened = c.in_ok-source.ensures in
    record {
      selected = c.in_ok-selected.selected;
      done = (c.in_ok-copied.copied, c.in_ok-copied.behind);
      run = record {
        source = c.in_ok-source.source;
        chosen = record {
          opened = record { same = opened.same; opened = opened.opened };
          selects = c.in_ok-selected.ensures.selects;
          whole = rw c.is_exact.ensures at c.in_ok-check_source_if.ensures;
        };
        made = c.in_ok-copied.ensures;
      };
      whole = sym c.in_ok-of.ensures.fault ∙ none;
      answers = c.in_ok-of.ensures.answer;
    }
