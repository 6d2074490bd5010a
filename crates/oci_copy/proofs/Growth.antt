-- A push keeps what a run keeps.
use Rattle.std.proofs.Common.{◌≡◌, ◌<◌, ◌≤◌, ◌-◌, ◌^◌, ◌⊎◌, inl, inr, ℕ, true, false, List, [], ◌∷◌, ◌++◌, Some, Result, Ok, Err, refl, sym, ap, ◌∙◌, append_assoc, append-nil, subst, arith}
use Rattle.std.specs.Prelude.{Contains, IsErrOf, option_map}
use Rattle.std.specs.List.{All}
use Rattle.std.proofs.lemmas.List.Elements.{All-nil, All-weaker, All-push}
use Rattle.std.specs.Result.{result_unwrap_or}
use Rattle.oci_manifest.specs.Descriptor.{Descriptor}
use Rattle.oci_manifest.specs.Fault.{Fault}
use Rattle.oci_store.specs.Keyed.{value_at, has_key, HasAll}
use Rattle.oci_store.specs.Content.{Entry, Matches, IsChecked, successors_in}
use Rattle.oci_store.specs.Graph.{Node, node_of}
use Rattle.oci_store.specs.Push.{IsCalm, IsUndisturbed, AgreesAt, IsPush}
use Rattle.oci_store.specs.Parts.{IsLeaf, IsLostPush}
use Rattle.oci_store.specs.declared.fault.PushFault.{PushFault}
use Rattle.oci_store.specs.declared.fault.PushFault.TheVariants as push
use Rattle.oci_store.specs.State.{State}
use Rattle.oci_store.proofs.Leaves.{IsChecked-leaf}
use Rattle.oci_store.proofs.Lookups.{All-value_at, value_at-append_cases, has_key-append_left}
use Rattle.oci_plan.proofs.Items.{value_at-nodes_of}
use Rattle.oci_copy.specs.Brought.{IsDrafted}
use Rattle.oci_copy.specs.Grown.{graph_of, HasKnownBytes, ListsByBytes, StillLasts}
use Rattle.oci_copy.specs.Kept.{Keeps, IsOpeningAnd}
use Rattle.oci_copy.proofs.Checks.{held-from_check}

-- what is held stays held
pub HasAll-append : {X : Type 0} (a b : List (Descriptor × X)) (ks : List Descriptor) → HasAll a ks → HasAll (a ++ b) ks
HasAll-append a b ks h = All-weaker (λ k. has_key a k ≡ true) (λ k. has_key (a ++ b) k ≡ true) (λ k held. has_key-append_left a b k held) ks h

-- bytes that were looked at list what their node lists
lists_by_bytes : (k : Descriptor) (bytes : List ℕ) (listed : List Descriptor) → IsChecked k bytes listed → ListsByBytes (node_of (k, bytes))
lists_by_bytes k bytes listed read = (
  bytes,
  record {
    matching = read.matching;
    reads = read.reads ∙ ap (λ (ks : List Descriptor). Ok ks) (sym (ap (λ (r : Result (List Descriptor) Fault). result_unwrap_or r []) read.reads));
  },
)

-- a run keeps it as it begins
pub keeps_start : (shares : Type 0) (source : State) (planned : List Descriptor) (opening : State) → Keeps shares source planned opening opening
keeps_start shares source planned opening = record {
  added = [];
  is = sym (append-nil opening.nodes);
  planned_keys = All-nil (λ (n : Node). Contains planned n.0);
  supported = All-nil (λ (n : Node). HasAll opening.nodes n.1);
  checked = All-nil ListsByBytes;
  own = λ h. All-nil (λ (n : Node). value_at (graph_of source) n.0 ≡ Some n.1);
  known = λ t. (t.is_sound, record { added = []; is = sym (append-nil opening.entries); each = All-nil (λ (e : Entry). Contains planned e.0 × (value_at source.entries e.0 ≡ Some e.1)) });
  rising = omega arith;
  tags = refl;
  name = refl;
  lasts = λ h entries tags same was. was;
}

-- bytes that are known after a push were known before it, and no put failed meanwhile
known_before : {shares : Type 0} {source opening before after : State} → opening.failures ≤ before.failures → before.failures ≤ after.failures
    → HasKnownBytes shares source opening after → HasKnownBytes shares source opening before × IsCalm before.failures after.failures
known_before {opening = opening} {before = before} {after = after} up rises known =
    let calm = known.is_calm in
    let same : before.failures ≡ opening.failures = (let e = calm.0 in omega arith) in
    let less : before.failures < 2 ^ 64 - 1 = (let e = calm.0 in let l = calm.1 in omega arith) in
    let now : after.failures ≡ before.failures = (let e = calm.0 in omega arith) in
    (record { is_honest = known.is_honest; is_sound = known.is_sound; is_calm = (same, less); same_old = known.same_old; same_source = known.same_source }, (now, calm.1))

module _ {shares : Type 0} {source : State} {planned : List Descriptor} {opening before after : State} {e : Entry} {pushed : Result ℕ PushFault}
    (did : IsPush shares before after e pushed) (own : source.is_honest → value_at source.entries e.0 ≡ Some e.1) (keeps : Keeps shares source planned opening before) where
  -- the pairs of the pushed key's digest have its bytes
  agrees_at : HasKnownBytes shares source opening before → IsOpeningAnd source.entries planned opening.entries before.entries → shares → AgreesAt before.entries e.0 e.1
  agrees_at known grown shared other found there same =
      elim (value_at-append_cases opening.entries grown.added other found (subst (λ (l : List Entry). value_at l other ≡ Some found) grown.is there)) [
        | inl old ↦ known.same_old shared e.0 other e.1 found (own known.is_honest) old same
        | inr added ↦
            known.same_source shared e.0 other e.1 found (own known.is_honest)
            (All-value_at (λ (p : Entry). Contains planned p.0 × (value_at source.entries p.0 ≡ Some p.1)) grown.added other found grown.each added).1 same
      ]

  undisturbed : HasKnownBytes shares source opening after → IsUndisturbed shares before after e
  undisturbed known =
      let b = known_before {before = before} keeps.rising did.failures known in
      let was = keeps.known b.0 in
      record { is_sound = was.0; is_calm = b.1; agrees = agrees_at b.0 was.1 }

  -- what lasted still does
  still_lasts : StillLasts source opening after
  still_lasts h entries tags same was =
      did.lasts entries tags (λ other found at digest. same e.0 other e.1 found (own h) at digest) (keeps.lasts h entries tags same was)

  -- a push keeps it where it is done
  keeps_pushed : Contains planned e.0 → after.nodes ≡ before.nodes ++ node_of e ∷ [] → HasAll before.nodes (successors_in e.0 e.1) → ListsByBytes (node_of e)
      → (IsUndisturbed shares before after e → after.entries ≡ before.entries ++ e ∷ []) → Keeps shares source planned opening after
  keeps_pushed plan grown held by_bytes bytes_are =
      let node = node_of e in
      let Listed : List Node → Node → Type 0 = λ graph n. HasAll graph n.1 in
      record {
        added = keeps.added ++ node ∷ [];
        is = grown ∙ (ap (λ (l : List Node). l ++ node ∷ []) keeps.is ∙ append_assoc opening.nodes keeps.added (node ∷ []));
        planned_keys = All-push (λ (n : Node). Contains planned n.0) keeps.added node keeps.planned_keys plan;
        supported = subst (λ (graph : List Node). All (Listed graph) (keeps.added ++ node ∷ [])) (sym grown)
            (All-push (Listed (before.nodes ++ node ∷ [])) keeps.added node
            (All-weaker (Listed before.nodes) (Listed (before.nodes ++ node ∷ [])) (λ n h. HasAll-append before.nodes (node ∷ []) n.1 h) keeps.added keeps.supported)
            (HasAll-append before.nodes (node ∷ []) node.1 held));
        checked = All-push ListsByBytes keeps.added node keeps.checked by_bytes;
        own = λ h. All-push (λ (n : Node). value_at (graph_of source) n.0 ≡ Some n.1) keeps.added node (keeps.own h)
            (value_at-nodes_of source.entries e.0 ∙ ap (option_map (successors_in e.0)) (own h));
        known = λ t.
            let calm = undisturbed t in
            let was = (keeps.known (known_before {before = before} keeps.rising did.failures t).0).1 in (
              did.bytes.sound calm,
              record {
                added = was.added ++ e ∷ [];
                is = bytes_are calm ∙ (ap (λ (l : List Entry). l ++ e ∷ []) was.is ∙ append_assoc opening.entries was.added (e ∷ []));
                each = All-push (λ (p : Entry). Contains planned p.0 × (value_at source.entries p.0 ≡ Some p.1)) was.added e was.each (plan, own t.is_honest);
              },
            );
        rising = (let u = keeps.rising in let rises = did.failures in omega arith);
        tags = did.tags ∙ keeps.tags;
        name = did.name ∙ keeps.name;
        lasts = still_lasts;
      }

  -- and where it is refused
  keeps_refused : after.nodes ≡ before.nodes → (IsUndisturbed shares before after e → after.entries ≡ before.entries) → Keeps shares source planned opening after
  keeps_refused same bytes_are = record {
    added = keeps.added;
    is = same ∙ keeps.is;
    planned_keys = keeps.planned_keys;
    supported = subst (λ (graph : List Node). All (λ (n : Node). HasAll graph n.1) keeps.added) (sym same) keeps.supported;
    checked = keeps.checked;
    own = keeps.own;
    known = λ t.
        let calm = undisturbed t in
        let was = (keeps.known (known_before {before = before} keeps.rising did.failures t).0).1 in
        (did.bytes.sound calm, record { added = was.added; is = bytes_are calm ∙ was.is; each = was.each });
    rising = (let u = keeps.rising in let rises = did.failures in omega arith);
    tags = did.tags ∙ keeps.tags;
    name = did.name ∙ keeps.name;
    lasts = still_lasts;
  }

-- a push of content that was looked at keeps it, however it is answered
pub keeps_answered : {shares : Type 0} {source : State} {planned : List Descriptor} {opening before after : State} {e : Entry} {listed : List Descriptor} (pushed : Result ℕ PushFault)
    → IsPush shares before after e pushed → (source.is_honest → value_at source.entries e.0 ≡ Some e.1) → Contains planned e.0 → has_key before.nodes e.0 ≡ false → IsChecked e.0 e.1 listed
    → Keeps shares source planned opening before → Keeps shares source planned opening after
keeps_answered {before = before} {e = e} {listed = listed} (Ok place) did own plan fresh read keeps =
    keeps_pushed did own keeps plan did.keys.pushed (held-from_check before.nodes e.0 e.1 did.keys.checked.0 fresh read.matching did.keys.checked.1) (lists_by_bytes e.0 e.1 listed read) did.bytes.pushed
keeps_answered (Err fault) did own plan fresh read keeps = keeps_refused did own keeps did.keys.refused did.bytes.refused

-- so does a push of a lost draft
pub keeps_lost : {shares : Type 0} {source : State} {planned : List Descriptor} {opening before after : State} {k : Descriptor} {pushed : Result ℕ PushFault}
    → IsLostPush before after k pushed → Keeps shares source planned opening before → Keeps shares source planned opening after
keeps_lost {before = before} did keeps = record {
  added = keeps.added;
  is = did.keys.same ∙ keeps.is;
  planned_keys = keeps.planned_keys;
  supported = subst (λ (graph : List Node). All (λ (n : Node). HasAll graph n.1) keeps.added) (sym did.keys.same) keeps.supported;
  checked = keeps.checked;
  own = keeps.own;
  known = λ t.
      let was = known_before {before = before} keeps.rising did.failures t in
      let known = keeps.known was.0 in
      (did.sound known.0 was.1, record { added = known.1.added; is = did.entries known.0 was.1 ∙ known.1.is; each = known.1.each });
  rising = (let u = keeps.rising in let rises = did.failures in omega arith);
  tags = did.tags ∙ keeps.tags;
  name = did.name ∙ keeps.name;
  lasts = λ h entries tags same was. did.lasts entries tags (keeps.lasts h entries tags same was);
}

-- and a push of a draft, lost or not
pub keeps_drafted : {shares lost : Type 0} {drafted : List ℕ → Type 0} {source : State} {planned : List Descriptor} {opening before after : State} {k : Descriptor} {pushed : Result ℕ PushFault}
    → IsDrafted lost drafted source k → (lost → IsLostPush before after k pushed) → ((bytes : List ℕ) → drafted bytes → Matches k bytes → IsPush shares before after (k, bytes) pushed)
    → IsLeaf k → Contains planned k → has_key before.nodes k ≡ false → Keeps shares source planned opening before → Keeps shares source planned opening after
keeps_drafted (inl lost) left did leaf plan fresh keeps = keeps_lost (left lost) keeps
keeps_drafted {k = k} {pushed = pushed} (inr it) left did leaf plan fresh keeps =
    let own = it.1 in
    keeps_answered {listed = []} pushed (did it.0 own.is_drafted own.matching) own.own plan fresh (IsChecked-leaf k it.0 [] leaf own.matching refl) keeps

-- a push of a draft raises the count of failed puts only with a device error
pub drafted_calm : (source : State) {shares lost : Type 0} {drafted : List ℕ → Type 0} {before after : State} {k : Descriptor} {pushed : Result ℕ PushFault}
    → IsDrafted lost drafted source k → (lost → IsLostPush before after k pushed) → ((bytes : List ℕ) → drafted bytes → Matches k bytes → IsPush shares before after (k, bytes) pushed)
    → before.failures < after.failures → IsErrOf pushed push.Device
drafted_calm source (inl lost) left did = let it = left lost in it.calm
drafted_calm source (inr own) left did = let it = did own.0 own.1.is_drafted own.1.matching in it.calm

-- a push of a draft halts a store only if memory runs out
pub drafted_running : (source : State) {shares lost : Type 0} {drafted : List ℕ → Type 0} {before after : State} {k : Descriptor} {pushed : Result ℕ PushFault}
    → IsDrafted lost drafted source k → (lost → IsLostPush before after k pushed) → ((bytes : List ℕ) → drafted bytes → Matches k bytes → IsPush shares before after (k, bytes) pushed)
    → after.is_halted → before.is_halted ⊎ IsErrOf pushed push.Memory
drafted_running source (inl lost) left did = let it = left lost in it.running
drafted_running source (inr own) left did = let it = did own.0 own.1.is_drafted own.1.matching in it.running
