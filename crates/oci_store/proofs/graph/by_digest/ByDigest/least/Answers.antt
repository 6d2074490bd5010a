use Rattle.std.proofs.Common.{◌≡◌, List, ℕ, sym, ap, ◌∙◌}
use Rattle.std.specs.List.{filter}
use Rattle.oci_manifest.specs.Descriptor.{Descriptor}
use Rattle.oci_store.proofs.ByDigests.{first_of, from_key, all_pass, none_below, IsLeastOf-none, IsLeastOf-other, IsLeastOf-head, ne_apart, ne_same}
use Rattle.oci_store.proofs.graph.by_digest.ByDigest.least.Goals as goal

pub returns-in_err-next : goal.returns-in_err-next
returns-in_err-next c = λ graph are.
    let digest = c.args.digest.now in
    let set = c.args.self.now.keys in
    let start = c.new-first.result in
    let first : start ≡ first_of digest = c.new-first.ensures ∙ c.in-Ok.ensures.parts ∙ ap (λ (m : List ℕ). record { media_type = m; digest = digest; size = 0 }) c.new.ensures.bytes in
    let found : c.range-keys.result ≡ filter (from_key start) set.keys = c.range-keys.ensures.between tt in
    rw c.from_residual.ensures (IsLeastOf-none digest (from_key start) (all_pass digest start first) graph set are (sym found ∙ c.in_err-next.ensures.steps.0))

pub returns-then-ne : goal.returns-then-ne
returns-then-ne c = λ graph are.
    let digest = c.args.digest.now in
    let set = c.args.self.now.keys in
    let start = c.new-first.result in
    let k = c.in_ok-next.field-0.now in
    let first : start ≡ first_of digest = c.new-first.ensures ∙ c.in-Ok.ensures.parts ∙ ap (λ (m : List ℕ). record { media_type = m; digest = digest; size = 0 }) c.new.ensures.bytes in
    let found : c.range-keys.result ≡ filter (from_key start) set.keys = c.range-keys.ensures.between tt in
    let told : c.digest.result.now ≡ k.digest = c.digest.ensures ∙ ap (λ (x : Descriptor). x.digest) c.key-least.ensures in
    IsLeastOf-other digest (from_key start) (all_pass digest start first) (none_below digest start first) graph set are c.range-keys.ensures.ordered k c.next.new.self (sym found ∙ c.in_ok-next.ensures.steps)
    (λ e. ne_apart c.digest.result.now digest c.ne.result c.ne.ensures c.if-ne.true (told ∙ e))

pub returns : goal.returns
returns c = λ graph are.
    let digest = c.args.digest.now in
    let set = c.args.self.now.keys in
    let start = c.new-first.result in
    let k = c.in_ok-next.field-0.now in
    let first : start ≡ first_of digest = c.new-first.ensures ∙ c.in-Ok.ensures.parts ∙ ap (λ (m : List ℕ). record { media_type = m; digest = digest; size = 0 }) c.new.ensures.bytes in
    let found : c.range-keys.result ≡ filter (from_key start) set.keys = c.range-keys.ensures.between tt in
    let told : c.digest.result.now ≡ k.digest = c.digest.ensures ∙ ap (λ (x : Descriptor). x.digest) c.key-least.ensures in
    rw c.key-least.ensures
    (IsLeastOf-head digest (from_key start) (all_pass digest start first) graph set are c.range-keys.ensures.ordered k c.next.new.self (sym found ∙ c.in_ok-next.ensures.steps)
    (sym told ∙ ne_same c.digest.result.now digest c.ne.result c.ne.ensures c.if-ne.false))
