use Rattle.oci_manifest.proofs.Laws.{answer-reads, answer-only, answer-breaks, answer-breaks_only, answer-distinct}
use Rattle.oci_manifest.proofs.manifest.successors.Goals as goal

pub returns-clause-found : goal.returns-clause-found
returns-clause-found c = answer-reads (λ v. v.items) c.args.kind c.args.bytes.now c.answer.result c.answer.ensures.exact

pub returns-clause-reads : goal.returns-clause-reads
returns-clause-reads c = answer-only (λ v. v.items) c.args.kind c.args.bytes.now c.answer.result c.answer.ensures.exact

pub returns-clause-refused : goal.returns-clause-refused
returns-clause-refused c = answer-breaks (λ v. v.items) c.args.kind c.args.bytes.now c.answer.result c.answer.ensures.exact

pub returns-clause-breaks : goal.returns-clause-breaks
returns-clause-breaks c = answer-breaks_only (λ v. v.items) c.args.kind c.args.bytes.now c.answer.result c.answer.ensures.exact

pub returns-clause-distinct : goal.returns-clause-distinct
returns-clause-distinct c = answer-distinct (λ v. v.items) c.args.kind c.args.bytes.now c.answer.result c.answer.ensures.exact
