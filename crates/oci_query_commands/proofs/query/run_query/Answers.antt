use Rattle.std.proofs.Common.{sym, subst, ◌∙◌}
use Rattle.oci_query_commands.specs.Answered.{LeavesNothingOut}
use Rattle.oci_verify.specs.Intact.{HasFiles}
use Rattle.oci_query_commands.specs.Printed.{PrintsAnswer}
use Rattle.oci_query_commands.specs.Verified.{IsVerdict, IsWhole}
use Rattle.oci_query_commands.proofs.Answered.{IsReadable-opened}
use Rattle.oci_query_commands.proofs.Below.{IsVerifiedBelow-opened}
use Rattle.oci_query_commands.proofs.Verified.{HasFiles-opened, IsVerified-whole}
use Rattle.oci_query_commands.proofs.query.run_query.Goals as goal

pub returns : goal.returns
returns g c =
    let layout = c.in-Ok.layout in
    let device = g.D.Dir.device in
    let opened = c.in-Ok.ensures in
    let answer = c.in_ok-answer_from.ensures in
    let there : (device c.args.dir).is_honest → HasFiles (device layout.dir) layout.graph = λ honest. subst (λ d. HasFiles (device d) layout.graph) (sym opened.same) (HasFiles-opened (device c.args.dir) layout.graph layout.tags layout.opened honest (opened.opened honest)) in
    record {
      verified = λ good honest.
          IsVerified-whole (device c.args.dir) layout.graph layout.tags layout.opened honest (opened.opened honest)
          (subst (λ d. IsWhole (device d) layout.graph layout.opened) opened.same ((answer.verified good.0 (there honest)).0 good.1));
      faulty = λ bad honest. record {
        graph = layout.graph;
        tags = layout.tags;
        index = layout.opened;
        opened = opened.opened honest;
        wrong = λ whole.
            let good = (answer.verified bad.0 (there honest)).1 (subst (λ d. IsWhole (device d) layout.graph layout.opened) (sym opened.same) whole) in
            cc (sym good ∙ bad.1);
      };
      below = λ reference is honest.
          IsVerifiedBelow-opened (device c.args.dir) layout.graph layout.tags layout.opened reference c.in_ok-answer_from.field-0 honest (opened.opened honest)
          (subst (λ d. IsVerdict (device d) layout.graph layout.tags layout.opened reference c.in_ok-answer_from.field-0) opened.same (answer.below reference is (there honest)));
      answered = λ asks honest.
          IsReadable-opened (device c.args.dir) layout.graph layout.tags layout.opened honest (opened.opened honest)
          (subst (λ d. LeavesNothingOut (device d) layout.opened) opened.same (answer.answered asks));
      printed = λ lines honest. record {
        graph = layout.graph;
        tags = layout.tags;
        index = layout.opened;
        opened = opened.opened honest;
        answer = subst (λ d. PrintsAnswer (device d) layout.graph layout.tags layout.opened c.args.query.now (g.W.Write.contents c.args.out.now) (g.W.Write.contents c.answer_from.new.out)) opened.same (answer.printed lines);
      };
      written = λ is_cat honest. record {
        graph = layout.graph;
        tags = layout.tags;
        index = layout.opened;
        opened = opened.opened honest;
        answer = subst (λ d. PrintsAnswer (device d) layout.graph layout.tags layout.opened c.args.query.now (g.W.Write.contents c.args.out.now) (g.W.Write.contents c.answer_from.new.out)) opened.same (answer.written is_cat);
      };
    }
