-- What `verify` finds.
use Rattle.std.proofs.Common.{◌≡◌, ℕ, zero, suc, ◌+◌, ◌<◌, ◌≤◌, Bool, true, false, cond, not, ◌||◌, filter, List, [], ◌∷◌, ◌++◌, map, length, drop, get_or, slice_get, option_map, Option, Some, None, refl, sym, ap, subst, ◌∙◌, append_assoc, append-nil, arith}
use Rattle.std.specs.Prelude.{Contains, is_some, option_and_then}
use Rattle.std.specs.BTreeSet.{BTreeSet, contains}
use Rattle.std.specs.List.{All}
use Rattle.std.specs.Map.{lookup}
use Rattle.std.proofs.Math.Dec.{eqb-suc-suc, eqb-zero-suc}
use Rattle.std.proofs.lemmas.List.{drop_more, drop_all, get_or-map, length-map}
use Rattle.std.proofs.lemmas.List.Elements.{All-head, All-tail, Contains-get_or}
use Rattle.std.proofs.lemmas.Map.Views.{lookup-from_Contains}
use Rattle.std.proofs.lemmas.Option.{same_Some, slice_get-get_or}
use Rattle.std.proofs.lemmas.Slice.Eq.{bytes_eq-Decides}
use Rattle.oci_layout_store.specs.Entries.{IndexEntry, entry_of, text_of}
use Rattle.oci_layout_store.specs.Saved.{is_name, is_place, last_place, later_place}
use Rattle.oci_layout_store.specs.declared.index.IndexEntry.{IndexEntry as CodeEntry}
use Rattle.oci_manifest.specs.Descriptor.{Descriptor, is_among, key_cmp, same_key}
use Rattle.oci_store.specs.Closed.{IsClosed, missing_successor_in, with_predecessor}
use Rattle.oci_store.specs.Graph.{Node}
use Rattle.oci_store.specs.Keyed.{has_key, value_at, HasAll, HasDistinctKeys}
use Rattle.oci_store.proofs.ClosedGraphs.{IsClosed-from_first_missing_successor}
use Rattle.oci_store.proofs.KeyOrder.{same_key_laws}
use Rattle.oci_query_commands.specs.Found.{first_without_file, has_file, has_name, pair_of, shadowed_in, tagged_if, without_file}
use Rattle.oci_query_commands.specs.declared.verify.Open.{Open}

-- ---- keys without a file

-- tests that agree find the same key
without_file-same : (p q : Descriptor → Bool) → ((k : Descriptor) → p k ≡ q k) → (keys : List Descriptor) → without_file p keys ≡ without_file q keys
without_file-same p q same [] = refl
without_file-same p q same (k ∷ keys) =
    ap (λ (b : Bool). cond (not b) (Some k) (without_file p keys)) (same k)
    ∙ ap (cond (not (q k)) (Some k)) (without_file-same p q same keys)

pub first_without_file-same : (p q : Descriptor → Bool) → ((k : Descriptor) → p k ≡ q k) → (nodes : List Node) → first_without_file p nodes ≡ first_without_file q nodes
first_without_file-same p q same [] = refl
first_without_file-same p q same (n ∷ nodes) =
    ap (λ (o : Option Descriptor). with_predecessor n.0 o (first_without_file p nodes)) (without_file-same p q same n.1)
    ∙ ap (with_predecessor n.0 (without_file q n.1)) (first_without_file-same p q same nodes)

-- held keys have a file
without_file-held : (graph : List Node) (is_damaged : Descriptor → Bool) (keys : List Descriptor) → HasAll graph keys → without_file (has_file graph is_damaged) keys ≡ None
without_file-held graph is_damaged [] held = refl
without_file-held graph is_damaged (k ∷ keys) held =
    let P = λ (x : Descriptor). has_key graph x ≡ true in
    rw (All-head P k keys held) (without_file-held graph is_damaged keys (All-tail P k keys held))

all_with_files : (graph nodes : List Node) (is_damaged : Descriptor → Bool) → All (λ (n : Node). HasAll graph n.1) nodes → first_without_file (has_file graph is_damaged) nodes ≡ None
all_with_files graph [] is_damaged held = refl
all_with_files graph (n ∷ nodes) is_damaged held =
    let P = λ (m : Node). HasAll graph m.1 in
    rw (without_file-held graph is_damaged n.1 (All-head P n nodes held)) (all_with_files graph nodes is_damaged (All-tail P n nodes held))

-- without damaged keys, only held keys have a file
as_missing : (graph nodes : List Node) → first_without_file (has_key graph) nodes ≡ missing_successor_in graph nodes
as_missing graph [] = refl
as_missing graph (n ∷ nodes) = ap (with_predecessor n.0 (without_file (has_key graph) n.1)) (as_missing graph nodes)

or_false : (b : Bool) → (b || false) ≡ b
or_false true = refl
or_false false = refl

pub no_pair : (found : Option Open) → option_map pair_of found ≡ None → found ≡ None
no_pair None h = refl
no_pair (Some pair) h = cc h

pub closed-from_found : (graph : List Node) (damaged : List Descriptor) (found : Option Open) → option_map pair_of found ≡ first_without_file (has_file graph (is_among damaged)) graph → found ≡ None → damaged ≡ [] → IsClosed graph
closed-from_found graph damaged found is none undamaged =
    IsClosed-from_first_missing_successor graph (
    sym (as_missing graph graph)
    ∙ sym (first_without_file-same (has_file graph (is_among [])) (has_key graph) (λ k. or_false (has_key graph k)) graph)
    ∙ ap (λ (keys : List Descriptor). first_without_file (has_file graph (is_among keys)) graph) (sym undamaged)
    ∙ sym is ∙ ap (option_map pair_of) none
    )

pub found-from_closed : (graph : List Node) (damaged : List Descriptor) (found : Option Open) → option_map pair_of found ≡ first_without_file (has_file graph (is_among damaged)) graph → IsClosed graph → found ≡ None
found-from_closed graph damaged found is closed = no_pair found (is ∙ all_with_files graph graph (is_among damaged) closed)

-- the damaged keys in a set
pub found_in_set : (graph : List Node) (set : BTreeSet Descriptor) (damaged : List Descriptor) → ((k : Descriptor) → contains key_cmp set k ≡ is_among damaged k)
    → (nodes : List Node) → first_without_file (has_file graph (contains key_cmp set)) nodes ≡ first_without_file (has_file graph (is_among damaged)) nodes
found_in_set graph set damaged among nodes =
    first_without_file-same (has_file graph (contains key_cmp set)) (has_file graph (is_among damaged)) (λ k. ap (λ (b : Bool). has_key graph k || b) (among k)) nodes

-- ---- the next node

turned : (graph : List Node) (k : Descriptor) → value_at graph k ≡ lookup (same_key k) graph
turned [] k = refl
turned (n ∷ graph) k = rw (same_key_laws.symm n.0 k, turned graph k) refl

-- where no key occurs twice, a node is what is found under its key
pub own_value : (graph : List Node) (n : Node) → HasDistinctKeys graph → Contains graph n → value_at graph n.0 ≡ Some n.1
own_value graph n distinct there = turned graph n.0 ∙ lookup-from_Contains same_key_laws n.0 n.1 graph distinct there

-- the nodes whose keys pass a test
abbrev pub asked_in : (Descriptor → Bool) → List Node → List Node
asked_in is_asked nodes = filter (λ (n : Node). is_asked n.0) nodes

-- a node that is kept if a test says so
pub first_if : (has : Descriptor → Bool) (n : Node) (rest : List Node) (asked : Bool) → first_without_file has (cond asked (n ∷ rest) rest) ≡ with_predecessor n.0 (cond asked (without_file has n.1) None) (first_without_file has rest)
first_if has n rest true = refl
first_if has n rest false = refl

pub next_node : (has is_asked : Descriptor → Bool) (graph : List Node) (i : ℕ) (key : Descriptor) → HasDistinctKeys graph → i < length graph → option_map (λ (n : Node). n.0) (slice_get graph i) ≡ Some key
    → first_without_file has (asked_in is_asked (drop i graph)) ≡ with_predecessor key (cond (is_asked key) (option_and_then (without_file has) (value_at graph key)) None) (first_without_file has (asked_in is_asked (drop (i + 1) graph)))
next_node has is_asked graph i key distinct lt at =
    let d : Node = (key, []) in
    let n = get_or graph i d in
    let rest = asked_in is_asked (drop (i + 1) graph) in
    let is : n.0 ≡ key = same_Some n.0 key (ap (option_map (λ (m : Node). m.0)) (sym (slice_get-get_or graph i d lt)) ∙ at) in
    ap (λ (nodes : List Node). first_without_file has (asked_in is_asked nodes)) (drop_more graph i d lt)
    ∙ first_if has n rest (is_asked n.0)
    ∙ ap (λ (o : Option (List Descriptor)). with_predecessor n.0 (cond (is_asked n.0) (option_and_then (without_file has) o) None) (first_without_file has rest)) (sym (own_value graph n distinct (Contains-get_or graph i d lt)))
    ∙ ap (λ (k : Descriptor). with_predecessor k (cond (is_asked k) (option_and_then (without_file has) (value_at graph k)) None) (first_without_file has rest)) is

-- ---- entries whose name a later one has

later_some : (o : Option ℕ) (here : Bool) → is_some (later_place o here) ≡ (here || is_some o)
later_some (Some i) true = refl
later_some (Some i) false = refl
later_some None true = refl
later_some None false = refl

-- a name has a last place if an entry has it
pub has_place : (name : List ℕ) (es : List IndexEntry) → is_some (last_place name es) ≡ has_name es name
has_place name [] = refl
has_place name (e ∷ es) = later_some (last_place name es) (is_name name e.name) ∙ ap (λ (b : Bool). is_name name e.name || b) (has_place name es)

first_is : (o : Option ℕ) → not (is_place 0 (later_place o true)) ≡ is_some o
first_is (Some j) = ap not (eqb-zero-suc j)
first_is None = refl

later_is : (o : Option ℕ) (here : Bool) (i : ℕ) → is_some o ≡ true → is_place (suc i) (later_place o here) ≡ is_place i o
later_is (Some j) here i some = eqb-suc-suc i j
later_is None here i some = cc some

or_true : (b : Bool) → (b || true) ≡ true
or_true true = refl
or_true false = refl

-- the entry at a place has its name
has_own : (name : List ℕ) (es : List IndexEntry) (i : ℕ) (d : IndexEntry) → i < length es → is_name name (get_or es i d).name ≡ true → has_name es name ≡ true
has_own name [] i d lt named = absurd (omega (arith, lt))
has_own name (e ∷ es) zero d lt named = rw named refl
has_own name (e ∷ es) (suc i) d lt named = ap (λ (b : Bool). is_name name e.name || b) (has_own name es i d (omega (arith, lt)) named) ∙ or_true (is_name name e.name)

-- its place is the last one of its name unless a later entry has the name
not_last : (name : List ℕ) (es : List IndexEntry) (i : ℕ) (d : IndexEntry) → i < length es → is_name name (get_or es i d).name ≡ true → not (is_place i (last_place name es)) ≡ has_name (drop (suc i) es) name
not_last name [] i d lt named = absurd (omega (arith, lt))
not_last name (e ∷ es) zero d lt named = rw named (first_is (last_place name es) ∙ has_place name es)
not_last name (e ∷ es) (suc i) d lt named =
    ap not (later_is (last_place name es) (is_name name e.name) i (has_place name es ∙ has_own name es i d (omega (arith, lt)) named))
    ∙ not_last name es i d (omega (arith, lt)) named

-- tests that agree on its name keep the same of an entry
tagged_if-same : (p q : List ℕ → Bool) (key : Option Descriptor) (name : Option (List ℕ)) → ((n : List ℕ) → name ≡ Some n → p n ≡ q n) → tagged_if p key name ≡ tagged_if q key name
tagged_if-same p q None name same = refl
tagged_if-same p q (Some k) None same = refl
tagged_if-same p q (Some k) (Some []) same = refl
tagged_if-same p q (Some k) (Some (c ∷ cs)) same = ap (λ (b : Bool). cond b ((c ∷ cs, k) ∷ []) []) (same (c ∷ cs) refl)

own_name : (n : List ℕ) (name : Option (List ℕ)) → name ≡ Some n → is_name n name ≡ true
own_name n name e = rw e ((bytes_eq-Decides n n).1 refl)

-- the entry at the next place
pub next_shadowed : (old new : List (List ℕ × Descriptor)) (entries : List CodeEntry) (i : ℕ) (e : CodeEntry) → i < length entries → e ≡ get_or entries i e
    → new ≡ old ++ tagged_if (λ name. not (is_place i (last_place name (map entry_of entries)))) e.key (text_of e.name)
    → old ++ shadowed_in (drop i (map entry_of entries)) ≡ shadowed_in (map entry_of entries) → new ++ shadowed_in (drop (i + 1) (map entry_of entries)) ≡ shadowed_in (map entry_of entries)
next_shadowed old new entries i e lt is grown before =
    let es = map entry_of entries in
    let later = drop (i + 1) es in
    let next : suc i ≡ i + 1 = omega arith in
    let within : i < length es = subst (λ (n : ℕ). i < n) (sym (length-map entries entry_of)) lt in
    let here : get_or es i (entry_of e) ≡ entry_of e = get_or-map entry_of entries i e (entry_of e) lt ∙ ap entry_of (sym is) in
    let same = tagged_if-same (λ (name : List ℕ). not (is_place i (last_place name es))) (has_name later) e.key (text_of e.name)
    (λ n named. not_last n es i (entry_of e) within (ap (λ (x : IndexEntry). is_name n x.name) here ∙ own_name n (text_of e.name) named) ∙ ap (λ (m : ℕ). has_name (drop m es) n) next) in
    ap (λ (xs : List (List ℕ × Descriptor)). xs ++ shadowed_in later) (grown ∙ ap (λ (xs : List (List ℕ × Descriptor)). old ++ xs) same)
    ∙ append_assoc old (tagged_if (has_name later) e.key (text_of e.name)) (shadowed_in later)
    ∙ ap (λ (x : IndexEntry). old ++ shadowed_in (x ∷ later)) (sym here)
    ∙ ap (λ (xs : List IndexEntry). old ++ shadowed_in xs) (sym (drop_more es i (entry_of e) within))
    ∙ before

-- all entries
pub all_shadowed : (found : List (List ℕ × Descriptor)) (entries : List CodeEntry) (i : ℕ) → length entries ≤ i → found ++ shadowed_in (drop i (map entry_of entries)) ≡ shadowed_in (map entry_of entries) → found ≡ shadowed_in (map entry_of entries)
all_shadowed found entries i past h =
    sym (append-nil found) ∙ ap (λ (es : List IndexEntry). found ++ shadowed_in es) (sym (drop_all i (map entry_of entries) (subst (λ (n : ℕ). n ≤ i) (sym (length-map entries entry_of)) past))) ∙ h
