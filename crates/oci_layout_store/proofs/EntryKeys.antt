-- The keys of entries, of which an entry has at most one.
use Rattle.std.proofs.Common.{◌≡◌, ◌⊎◌, true, inl, inr, List, [], ◌∷◌, ◌++◌, Option, Some, None, refl, sym, ap, subst, ◌∙◌}
use Rattle.std.specs.List.{All, cons_option}
use Rattle.std.proofs.lemmas.List.Elements.{All-head, All-tail, All-nil, All-cons, filter_map-append}
use Rattle.oci_manifest.specs.Descriptor.{Descriptor}
use Rattle.oci_manifest.proofs.Keys.{Decides-same_key}
use Rattle.oci_store.specs.Graph.{Node}
use Rattle.oci_store.specs.Keyed.{has_key}
use Rattle.oci_layout_store.specs.Entries.{IndexEntry, entry_keys, is_held, is_this_key}

pub entry_keys-append : (xs ys : List IndexEntry) → entry_keys (xs ++ ys) ≡ entry_keys xs ++ entry_keys ys
entry_keys-append xs ys = filter_map-append (λ (e : IndexEntry). e.key) xs ys

-- an entry has a key, or none
pub key_or_none : (key : Option Descriptor) → ((k : Descriptor) × (key ≡ Some k)) ⊎ (key ≡ None)
key_or_none None = inr refl
key_or_none (Some k) = inl (k, refl)

-- the first entry's key comes first
pub first_key : (e : IndexEntry) (es : List IndexEntry) (k : Descriptor) → e.key ≡ Some k → entry_keys (e ∷ es) ≡ k ∷ entry_keys es
first_key e es k is = ap (λ (o : Option Descriptor). cons_option o (entry_keys es)) is

pub no_first_key : (e : IndexEntry) (es : List IndexEntry) → e.key ≡ None → entry_keys (e ∷ es) ≡ entry_keys es
no_first_key e es is = ap (λ (o : Option Descriptor). cons_option o (entry_keys es)) is

-- what holds of the key of each entry that has one
pub all_keys : (P : Descriptor → Type 0) (es : List IndexEntry) → All (λ (e : IndexEntry). (k : Descriptor) → e.key ≡ Some k → P k) es → All P (entry_keys es)
all_keys P [] h = All-nil P
all_keys P (e ∷ es) h =
    let Q : IndexEntry → Type 0 = λ (x : IndexEntry). (k : Descriptor) → x.key ≡ Some k → P k in
    let rest : All P (entry_keys es) = all_keys P es (All-tail Q e es h) in
    elim (key_or_none e.key) [
      | inl it ↦ subst (λ (ks : List Descriptor). All P ks) (sym (first_key e es it.0 it.1)) (All-cons P it.0 (entry_keys es) (All-head Q e es h it.0 it.1) rest)
      | inr none ↦ subst (λ (ks : List Descriptor). All P ks) (sym (no_first_key e es none)) rest
    ]

-- ---- whether a key is this one, or is held

pub this_key_is : (k : Descriptor) (key : Option Descriptor) → is_this_key k key ≡ true → key ≡ Some k
this_key_is k None h = cc h
this_key_is k (Some other) h = ap Some ((Decides-same_key other k).0 h)

pub this_key_from : (k : Descriptor) (key : Option Descriptor) → key ≡ Some k → is_this_key k key ≡ true
this_key_from k key is = ap (is_this_key k) is ∙ (Decides-same_key k k).1 refl

pub same_held : (graph again : List Node) → ((k : Descriptor) → has_key again k ≡ has_key graph k) → (key : Option Descriptor) → is_held again key ≡ is_held graph key
same_held graph again same None = refl
same_held graph again same (Some k) = same k
