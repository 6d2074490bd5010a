-- What `verify` finds below a key, and what is wrong there.
use Rattle.std.proofs.Common.{◌≡◌, ℕ, ◌+◌, ◌-◌, ◌^◌, ◌&&◌, ◌||◌, Bool, true, false, cond, not, Bor, inl, inr, List, [], ◌∷◌, ◌++◌, filter, map, length, min, option_map, Option, Some, None, Result, Ok, Err, refl, sym, ap, subst, ◌∙◌}
use Rattle.std.specs.Prelude.{◌↔◌, Contains, IfOk}
use Rattle.std.specs.List.{All}
use Rattle.std.specs.Map.{keys_of}
use Rattle.std.specs.Option.{option_copied}
use Rattle.std.proofs.lemmas.Bool.{cases_Bool}
use Rattle.std.proofs.lemmas.List.{length-append, length-map}
use Rattle.std.proofs.lemmas.List.Elements.{All-nil, All-cons, All-contains, All-contains_itself, All-head, All-tail, All-weaker, Contains-push_cases, filter-append}
use Rattle.oci_layout_store.specs.Blobs.{blob_at}
use Rattle.oci_dir.specs.Device.{Device}
use Rattle.oci_layout_store.specs.Layout.{OpenedIndex}
use Rattle.oci_layout_store.specs.Opened.{IsOpenedAsIs}
use Rattle.oci_layout_store.proofs.Loose.{no_element}
use Rattle.oci_manifest.specs.Descriptor.{Descriptor, is_among}
use Rattle.oci_store.specs.Closed.{with_predecessor}
use Rattle.oci_store.specs.Graph.{Node, Reaches, root, along}
use Rattle.oci_store.specs.Keyed.{has_key, HasDistinctKeys}
use Rattle.oci_store.specs.Tags.{Tags}
use Rattle.oci_store.proofs.Lookups.{All-value_at}
use Rattle.oci_store.proofs.Membership.{Contains-from_among, among_from_Contains, among-filter, among_filter_from}
use Rattle.oci_verify.specs.Corrupt.{AreCorruptOf}
use Rattle.oci_verify.specs.Intact.{is_matching, HasFiles}
use Rattle.oci_verify.proofs.Corrupt.{AreCorrupt-any}
use Rattle.oci_verify.proofs.Intact.{Decides-is_match}
use Rattle.oci_query_commands.specs.Found.{first_without_file, has_file, pair_of, without_file, AreFindings, AreFindingsBelow, AreFindingsOf}
use Rattle.oci_program.specs.declared.outcome.Outcome.{Outcome}
use Rattle.oci_command_line.specs.declared.request.Query.{Query}
use Rattle.oci_command_line.specs.declared.request.Query.TheVariants as query
use Rattle.oci_query_commands.specs.Verified.{is_verify, FindsNothing, IsVerdict, IsVerifiedBelow, IsWholeBelow}
use Rattle.oci_query_commands.specs.declared.verify.Findings.{Findings}
use Rattle.oci_query_commands.specs.declared.verify.Open.{Open}
use Rattle.oci_query_commands.proofs.ForeignLayers.{right_foreign}
use Rattle.oci_query_commands.proofs.Found.{asked_in, first_if, no_pair, own_value}
use Rattle.oci_query_commands.proofs.Verified.{none_mapped, nothing_in}

-- ---- where each key is asked for
filter-any : {X : Type 0} (xs : List X) → filter (λ (x : X). true) xs ≡ xs
filter-any [] = refl
filter-any {X} (x ∷ xs) = ap (λ (ys : List X). x ∷ ys) (filter-any xs)

pub AreFindings-any : (dir : Device) (graph : List Node) (index : OpenedIndex) (f : Findings) → AreFindingsOf dir graph index (λ (k : Descriptor). true) f → AreFindings dir graph index f
AreFindings-any dir graph index f are =
    let has = has_file graph (is_among index.damaged) in
    let most : ℕ = 2 ^ 64 - 1 in
    record {
      absent = are.absent;
      corrupt = λ there. AreCorrupt-any dir.file graph index.damaged f.corrupt.items (are.corrupt there);
      foreign = are.foreign;
      without_file = are.without_file ∙ ap (first_without_file has) (filter-any graph);
      shadowed = are.shadowed ∙ filter-any _;
      held = are.held
          ∙ ap (λ (ks : List Descriptor). min (length ks + length (filter (λ (k : Descriptor). true) index.damaged)) most) (filter-any (keys_of graph))
          ∙ ap (λ (ks : List Descriptor). min (length (keys_of graph) + length ks) most) (filter-any index.damaged)
          ∙ ap (λ (n : ℕ). min (n + length index.damaged) most) (length-map graph (λ (n : Node). n.0));
    }

-- ---- how many pass a test

-- one element more
pub counted : {X : Type 0} (test : X → Bool) (xs : List X) (x : X) → length (filter test (xs ++ x ∷ [])) ≡ length (filter test xs) + (cond (test x) 1 0)
counted test xs x =
    ap length (filter-append test xs (x ∷ [])) ∙ length-append (filter test xs) (filter test (x ∷ []))
    ∙ ap (λ (n : ℕ). length (filter test xs) + n) (one (test x))
  where
    one : (b : Bool) → length (cond b (x ∷ []) []) ≡ cond b 1 0
    one true = refl
    one false = refl

-- ---- nothing is found exactly if nothing is wrong

-- with what follows there is no pair: the key lists no key without a file, and neither do the others
no_predecessor : (k : Descriptor) (o : Option Descriptor) (rest : Option (Descriptor × Descriptor)) → with_predecessor k o rest ≡ None → (o ≡ None) × (rest ≡ None)
no_predecessor k (Some missing) rest h = cc h
no_predecessor k None rest h = (refl, h)

-- each of these keys has a file
abbrev HaveFiles : (Descriptor → Bool) → List Descriptor → Type 0
HaveFiles has keys = All (λ (k : Descriptor). has k ≡ true) keys

all_there : (has : Descriptor → Bool) (keys : List Descriptor) → without_file has keys ≡ None → HaveFiles has keys
all_there has [] none = All-nil (λ (k : Descriptor). has k ≡ true)
all_there has (k ∷ keys) none =
    let P : Descriptor → Type 0 = λ (x : Descriptor). has x ≡ true in
    let here : cond (not (has k)) (Some k) (without_file has keys) ≡ None = none in
    elim (cases_Bool (has k)) [
      | inl is ↦ All-cons P k keys is (all_there has keys (sym (ap (λ (b : Bool). cond (not b) (Some k) (without_file has keys)) is) ∙ here))
      | inr is_not ↦ let never : Some k ≡ None = sym (ap (λ (b : Bool). cond (not b) (Some k) (without_file has keys)) is_not) ∙ here in cc never
    ]

none_without : (has : Descriptor → Bool) (keys : List Descriptor) → HaveFiles has keys → without_file has keys ≡ None
none_without has [] there = refl
none_without has (k ∷ keys) there =
    let P : Descriptor → Type 0 = λ (x : Descriptor). has x ≡ true in
    ap (λ (b : Bool). cond (not b) (Some k) (without_file has keys)) (All-head P k keys there) ∙ none_without has keys (All-tail P k keys there)

-- the nodes whose keys pass a test list only keys with files
abbrev AreClosed : (Descriptor → Bool) → (Descriptor → Bool) → Node → Type 0
AreClosed has is_asked n = is_asked n.0 ≡ true → HaveFiles has n.1

all_closed : (has is_asked : Descriptor → Bool) (nodes : List Node) → first_without_file has (asked_in is_asked nodes) ≡ None → All (AreClosed has is_asked) nodes
all_closed has is_asked [] none = All-nil (AreClosed has is_asked)
all_closed has is_asked (n ∷ nodes) none =
    let p = no_predecessor n.0 (cond (is_asked n.0) (without_file has n.1) None) (first_without_file has (asked_in is_asked nodes)) (sym (first_if has n (asked_in is_asked nodes) (is_asked n.0)) ∙ none) in
    All-cons (AreClosed has is_asked) n nodes
    (λ asked. all_there has n.1 (sym (ap (λ (b : Bool). cond b (without_file has n.1) None) asked) ∙ p.0))
    (all_closed has is_asked nodes p.1)

-- a key that is not asked for counts for nothing
if_asked : (o : Option Descriptor) (b : Bool) → (b ≡ true → o ≡ None) → cond b o None ≡ None
if_asked o true none = none refl
if_asked o false none = refl

none_found : (has is_asked : Descriptor → Bool) (nodes : List Node) → All (AreClosed has is_asked) nodes → first_without_file has (asked_in is_asked nodes) ≡ None
none_found has is_asked [] closed = refl
none_found has is_asked (n ∷ nodes) closed =
    let here : AreClosed has is_asked n = All-head (AreClosed has is_asked) n nodes closed in
    first_if has n (asked_in is_asked nodes) (is_asked n.0)
    ∙ ap (λ (o : Option Descriptor). with_predecessor n.0 o (first_without_file has (asked_in is_asked nodes))) (if_asked (without_file has n.1) (is_asked n.0) (λ asked. none_without has n.1 (here asked)))
    ∙ none_found has is_asked nodes (All-tail (AreClosed has is_asked) n nodes closed)

both_true : (a b : Bool) → (a && b) ≡ true → (a ≡ true) × (b ≡ true)
both_true true b h = (refl, h)
both_true false b h = cc h

-- a key with a file that is not damaged is held
held_or : (a b : Bool) → (a || b) ≡ true → (b ≡ true → ⊥) → a ≡ true
held_or true b h not_b = refl
held_or false b h not_b = absurd (not_b h)

not_true : (b : Bool) → (b ≡ true → ⊥) → b ≡ false
not_true true h = absurd (h refl)
not_true false h = refl

no_open : (found : Option Open) → found ≡ None → option_map pair_of found ≡ None
no_open None h = refl
no_open (Some pair) h = cc h

-- a reached key is not damaged
abbrev NotDamaged : List Node → OpenedIndex → Descriptor → Type 0
NotDamaged graph index key = (k : Descriptor) → Reaches graph (key ∷ []) k → Contains index.damaged k → ⊥

only : (x k : Descriptor) → Contains (x ∷ []) k → x ≡ k
only x k there = elim (Contains-push_cases [] x k there) [ inl never ↦ absurd (no_element k never) | inr is ↦ is ]

held_below : (graph : List Node) (index : OpenedIndex) (key : Descriptor) (is_reached : Descriptor → Bool) → has_key graph key ≡ true → ((k : Descriptor) → (is_reached k ≡ true) ↔ Reaches graph (key ∷ []) k) → NotDamaged graph index key
    → All (AreClosed (has_file graph (is_among index.damaged)) is_reached) graph → (k : Descriptor) → Reaches graph (key ∷ []) k → has_key graph k ≡ true
held_below graph index key is_reached held reached undamaged closed k (root named) = subst (λ (x : Descriptor). has_key graph x ≡ true) (only key k named) held
held_below graph index key is_reached held reached undamaged closed k (along {from} path edge) =
    let has = has_file graph (is_among index.damaged) in
    let listed : HaveFiles has edge.0 = All-value_at (AreClosed has is_reached) graph from edge.0 closed edge.1 ((reached from).1 path) in
    held_or (has_key graph k) (is_among index.damaged k) (All-contains (λ (x : Descriptor). has x ≡ true) edge.0 k listed edge.2)
    (λ damaged. undamaged k (along path edge) (Contains-from_among index.damaged k damaged))

IsWholeBelow-nothing : (dir : Device) (graph : List Node) (index : OpenedIndex) (key : Descriptor) (f : Findings) → HasFiles dir graph → has_key graph key ≡ true → AreFindingsBelow dir graph index key f → FindsNothing f → IsWholeBelow dir graph index key
IsWholeBelow-nothing dir graph index key f has held are nothing =
    let is_reached = are.is_reached in
    let corrupt : AreCorruptOf is_reached dir.file graph index.damaged [] = subst (λ (keys : List Descriptor). AreCorruptOf is_reached dir.file graph index.damaged keys) nothing.1 (are.found.corrupt has) in
    let undamaged : NotDamaged graph index key = λ k path damaged. no_element k ((corrupt.each k).1 ((are.reached k).1 path, inl damaged)) in
    let closed = all_closed (has_file graph (is_among index.damaged)) is_reached graph (sym are.found.without_file ∙ no_open f.open nothing.3) in
    let all_held = held_below graph index key is_reached held are.reached undamaged closed in
    let passes : Descriptor → Bool = λ x. is_reached x && not (is_among index.damaged x) in
    let none : filter passes index.absent ≡ [] = sym are.found.absent ∙ ap (map (λ (x : Bor Descriptor). x.now)) nothing.0 in
    record {
      entries = λ k path absent.
          let fine : is_among index.damaged k ≡ false = not_true (is_among index.damaged k) (λ is. undamaged k path (Contains-from_among index.damaged k is)) in
          let passed : passes k ≡ true = ap (λ (b : Bool). b && not (is_among index.damaged k)) ((are.reached k).1 path) ∙ ap not fine in
          no_element k (Contains-from_among [] k (subst (λ (ks : List Descriptor). is_among ks k ≡ true) none (among_filter_from passes index.absent k passed (among_from_Contains index.absent k absent))));
      undamaged = undamaged;
      held = all_held;
      intact = λ honest k path.
          elim (cases_Bool (is_matching dir.file k)) [
            | inl is ↦ (Decides-is_match k (blob_at dir.file k.digest)).0 is
            | inr is_not ↦ absurd (no_element k ((corrupt.each k).1 ((are.reached k).1 path, inr (all_held k path, is_not))))
          ];
      foreign = λ honest from k path lists. right_foreign is_reached dir.file graph f.corrupt_foreign.items (are.found.foreign honest) nothing.2 from k ((are.reached from).1 path) lists;
    }

nothing-IsWholeBelow : (dir : Device) (graph : List Node) (index : OpenedIndex) (key : Descriptor) (f : Findings) → HasFiles dir graph → HasDistinctKeys graph → AreFindingsBelow dir graph index key f → IsWholeBelow dir graph index key → FindsNothing f
nothing-IsWholeBelow dir graph index key f has distinct are whole = (
  none_mapped f.absent.items (are.found.absent ∙ nothing_in (filter passes index.absent) none_absent),
  nothing_in f.corrupt.items none_corrupt,
  nothing_in f.corrupt_foreign.items (λ k there. let p = ((are.found.foreign has.0).each k).0 there in cc (sym p.1 ∙ whole.foreign has.0 p.0.0 k ((are.reached p.0.0).0 p.0.1) p.0.2)),
  no_pair f.open (are.found.without_file ∙ none_found there are.is_reached graph (All-weaker (Contains graph) (AreClosed there are.is_reached) closed graph (All-contains_itself graph))),
)
  where
    there : Descriptor → Bool
    there = has_file graph (is_among index.damaged)

    passes : Descriptor → Bool
    passes x = are.is_reached x && not (is_among index.damaged x)

    none_absent : (k : Descriptor) → Contains (filter passes index.absent) k → ⊥
    none_absent k left =
        let p = among-filter passes index.absent k (among_from_Contains (filter passes index.absent) k left) in
        whole.entries k ((are.reached k).0 (both_true (are.is_reached k) (not (is_among index.damaged k)) p.0).0) (Contains-from_among index.absent k p.1)

    none_corrupt : (k : Descriptor) → Contains f.corrupt.items k → ⊥
    none_corrupt k found =
        let p = ((are.found.corrupt has).each k).0 found in
        let path = (are.reached k).0 p.0 in
        elim p.1 [
          | inl damaged ↦ whole.undamaged k path damaged
          | inr wrong ↦ cc (sym ((Decides-is_match k (blob_at dir.file k.digest)).1 (whole.intact has.0 k path)) ∙ wrong.1)
        ]

    closed : (n : Node) → Contains graph n → AreClosed there are.is_reached n
    closed n in_graph asked =
        let path = (are.reached n.0).0 asked in
        All-weaker (Contains n.1) (λ (k : Descriptor). there k ≡ true)
        (λ k listed. ap (λ (b : Bool). b || is_among index.damaged k) (whole.held k (along path (n.1, own_value graph n distinct in_graph, listed)))) n.1 (All-contains_itself n.1)

pub below_iff : (dir : Device) (graph : List Node) (index : OpenedIndex) (key : Descriptor) (f : Findings) → HasFiles dir graph → HasDistinctKeys graph → has_key graph key ≡ true → AreFindingsBelow dir graph index key f → FindsNothing f ↔ IsWholeBelow dir graph index key
below_iff dir graph index key f has distinct held are = (
  λ nothing. IsWholeBelow-nothing dir graph index key f has held are nothing,
  λ whole. nothing-IsWholeBelow dir graph index key f has distinct are whole,
)

-- ---- at the end of the command

-- what a verdict says of a layout that was opened
pub IsVerifiedBelow-opened : (dir : Device) (graph : List Node) (tags : Tags) (index : OpenedIndex) (reference : List ℕ) (found : Outcome) → dir.is_honest → IsOpenedAsIs dir.file graph tags index → IsVerdict dir graph tags index reference found → IsVerifiedBelow dir reference found
IsVerifiedBelow-opened dir graph tags index reference found honest opened verdict = record {
  graph = graph;
  tags = tags;
  index = index;
  opened = opened;
  key = verdict.key;
  named = verdict.named;
  good = λ good k path. let whole = verdict.exact.0 good in (whole.held k path, whole.intact honest k path);
  foreign = λ good. (verdict.exact.0 good).foreign honest;
  faulty = λ faulty whole. cc (sym (verdict.exact.1 whole) ∙ faulty);
}

-- a `verify` of a whole layout has no reference
pub no_reference : (q : Query) (reference : Option (Bor (List ℕ))) (lists_broken : Bool) (workers : Option ℕ) (shows_progress : Bool) → q ≡ query.Verify reference lists_broken workers shows_progress → is_verify q ≡ true → option_copied reference ≡ None
no_reference q None lists_broken workers shows_progress e is = refl
no_reference q (Some reference) lists_broken workers shows_progress e is = cc (sym (ap is_verify e) ∙ is)

-- what is said of a command without a reference
pub IfOk-other : {T E : Type 0} (P : T → List ℕ → Type 0) (r : Result T E) (o : Option (List ℕ)) → o ≡ None → IfOk r (λ x. (name : List ℕ) → o ≡ Some name → P x name)
IfOk-other P (Ok x) o none = λ name is. cc (sym none ∙ is)
IfOk-other P (Err e) o none = tt
