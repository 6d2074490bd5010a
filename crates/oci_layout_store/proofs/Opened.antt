-- The tags that entries give, one at a time, and the keys that are not held.
use Rattle.std.proofs.Common.{◌≡◌, ◌≢◌, ℕ, ◌+◌, ◌<◌, inl, inr, true, false, List, [], ◌∷◌, ◌++◌, map, length, take, get_or, Option, Some, None, not, refl, sym, ap, ◌∙◌}
use Rattle.std.proofs.lemmas.List.{map-append, take_more}
use Rattle.std.specs.Prelude.{Result, Ok, Err, IsErrOf, OnOk, OnErr}
use Rattle.std.specs.Str.{bytes_eq}
use Rattle.std.proofs.lemmas.Bool.{cases_Bool, not-true}
use Rattle.std.proofs.lemmas.List.Elements.{All-head, All-tail, All-weaker, filter_passes}
use Rattle.std.specs.List.{All}
use Rattle.oci_manifest.specs.Descriptor.{Descriptor}
use Rattle.oci_store.specs.Graph.{Node}
use Rattle.oci_store.specs.Keyed.{has_key}
use Rattle.oci_store.specs.Tags.{Tags, set_tag, tag_at, without_tag, AnswersUntag}
use Rattle.oci_store.specs.declared.fault.RefFault.{RefFault}
use Rattle.oci_store.specs.declared.fault.RefFault.TheVariants as fault
use Rattle.serde_json.specs.Data.{Data}
use Rattle.serde_json.specs.View.{items_of, items_view, view}
use Rattle.serde_json.specs.declared.value.Value.{Value}
use Rattle.oci_layout_store.specs.Entries.{IndexEntry, entry_keys, entries_in, entry_of, entry_of_value, tag_named, tag_with, named, tag_owned, owned, absent_in}
use Rattle.oci_layout_store.specs.declared.index.IndexEntry.{IndexEntry as CodeEntry}
use Rattle.oci_layout_store.proofs.EntryKeys.{entry_keys-append}

pub tag_named-set : (graph : List Node) (k : Descriptor) (name : List ℕ) (tags : Tags) → name ≢ [] → has_key graph k ≡ true → tag_named graph (Some k) (Some name) tags ≡ set_tag tags name k
tag_named-set graph k [] tags full held = absurd (full refl)
tag_named-set graph k (c ∷ cs) tags full held = rw held refl

pub tag_named-absent : (graph : List Node) (k : Descriptor) (name : Option (List ℕ)) (tags : Tags) → has_key graph k ≡ false → tag_named graph (Some k) name tags ≡ tags
tag_named-absent graph k None tags absent = refl
tag_named-absent graph k (Some []) tags absent = refl
tag_named-absent graph k (Some (c ∷ cs)) tags absent = rw absent refl

pub tag_named-empty : (graph : List Node) (key : Option Descriptor) (name : List ℕ) (tags : Tags) → name ≡ [] → tag_named graph key (Some name) tags ≡ tags
tag_named-empty graph key name tags empty = rw empty refl

-- the tags after one entry more
pub named-more : (graph : List Node) (es : List IndexEntry) (e : IndexEntry) (tags : Tags) → named graph (es ++ e ∷ []) tags ≡ tag_with graph e (named graph es tags)
named-more graph [] e tags = refl
named-more graph (d ∷ es) e tags = named-more graph es e (tag_with graph d tags)

-- the same, where a name belongs to its last entry
pub tag_owned-set : (graph : List Node) (k : Descriptor) (name : List ℕ) (tags : Tags) → name ≢ [] → has_key graph k ≡ true → tag_owned graph (Some k) (Some name) tags ≡ set_tag tags name k
tag_owned-set graph k [] tags full held = absurd (full refl)
tag_owned-set graph k (c ∷ cs) tags full held = rw held refl

pub tag_owned-absent : (graph : List Node) (k : Descriptor) (name : List ℕ) (tags : Tags) → name ≢ [] → has_key graph k ≡ false → tag_owned graph (Some k) (Some name) tags ≡ without_tag tags name
tag_owned-absent graph k [] tags full absent = absurd (full refl)
tag_owned-absent graph k (c ∷ cs) tags full absent = rw absent refl

pub tag_owned-empty : (graph : List Node) (key : Option Descriptor) (name : List ℕ) (tags : Tags) → name ≡ [] → tag_owned graph key (Some name) tags ≡ tags
tag_owned-empty graph key name tags empty = rw empty refl

-- the same of an entry without a key
pub tag_named-none : (graph : List Node) (name : Option (List ℕ)) (tags : Tags) → tag_named graph None name tags ≡ tags
tag_named-none graph None tags = refl
tag_named-none graph (Some []) tags = refl
tag_named-none graph (Some (c ∷ cs)) tags = refl

pub tag_owned-none : (graph : List Node) (name : List ℕ) (tags : Tags) → name ≢ [] → tag_owned graph None (Some name) tags ≡ without_tag tags name
tag_owned-none graph [] tags full = absurd (full refl)
tag_owned-none graph (c ∷ cs) tags full = refl

pub owned-more : (graph : List Node) (es : List IndexEntry) (e : IndexEntry) (tags : Tags) → owned graph (es ++ e ∷ []) tags ≡ tag_owned graph e.key e.name (owned graph es tags)
owned-more graph [] e tags = refl
owned-more graph (d ∷ es) e tags = owned-more graph es e (tag_owned graph d.key d.name tags)

-- a name that is no tag is not removed
without_tag-unknown : (tags : Tags) (name : List ℕ) → tag_at tags name ≡ None → without_tag tags name ≡ tags
without_tag-unknown [] name h = refl
without_tag-unknown (t ∷ ts) name h =
    elim (cases_Bool (bytes_eq name t.0)) [
      | inl same ↦ cc (rw same at h)
      | inr apart ↦ rw apart (ap (λ (us : Tags). t ∷ us) (without_tag-unknown ts name (rw apart at h)))
    ]

-- what a call left that removes a tag
pub untagged : (old new : Tags) (name : List ℕ) (r : Result Descriptor RefFault) → name ≢ [] → (IsErrOf r fault.Memory → ⊥) → AnswersUntag old name r → OnOk r (new ≡ without_tag old name) → OnErr r (new ≡ old)
    → new ≡ without_tag old name
untagged old new name (Ok k) full memory answer removed kept = removed
untagged old new name (Err fault.EmptyReference) full memory answer removed kept = absurd (full answer)
untagged old new name (Err fault.UnknownReference) full memory answer removed kept = kept ∙ sym (without_tag-unknown old name answer.1)
untagged old new name (Err fault.NotHeld) full memory answer removed kept = absurd answer
untagged old new name (Err fault.Memory) full memory answer removed kept = absurd (memory refl)

-- one element more
pub entries_in-more : (ds : List Data) (d : Data) → entries_in (items_of (ds ++ d ∷ [])) ≡ entries_in (items_of ds) ++ entry_of_value d ∷ []
entries_in-more [] d = refl
entries_in-more (x ∷ ds) d = ap (λ (es : List IndexEntry). entry_of_value x ∷ es) (entries_in-more ds d)

pub next_element : (vs : List Value) (v : Value) → entries_in (items_view (vs ++ v ∷ [])) ≡ entries_in (items_view vs) ++ entry_of_value (view v) ∷ []
next_element vs v = ap (λ (ds : List Data). entries_in (items_of ds)) (map-append view vs (v ∷ [])) ∙ entries_in-more (map view vs) (view v)

-- the entries of the code, with the next one
pub next_entry : (es : List CodeEntry) (i : ℕ) (e : CodeEntry) → i < length es → e ≡ get_or es i e → map entry_of (take (i + 1) es) ≡ map entry_of (take i es) ++ entry_of e ∷ []
next_entry es i e lt is =
    ap (map entry_of) (take_more es i e lt ∙ ap (λ (x : CodeEntry). take i es ++ x ∷ []) (sym is)) ∙ map-append entry_of (take i es) (e ∷ [])

-- their keys, with the next one
pub next_keys : (es : List CodeEntry) (i : ℕ) (e : CodeEntry) → i < length es → e ≡ get_or es i e → entry_keys (map entry_of (take (i + 1) es)) ≡ entry_keys (map entry_of (take i es)) ++ entry_keys (entry_of e ∷ [])
next_keys es i e lt is = ap entry_keys (next_entry es i e lt is) ∙ entry_keys-append (map entry_of (take i es)) (entry_of e ∷ [])

pub absent-unheld : (graph : List Node) (keys : List Descriptor) → All (λ (k : Descriptor). has_key graph k ≡ false) (absent_in graph keys)
absent-unheld graph keys =
    All-weaker (λ (k : Descriptor). not (has_key graph k) ≡ true) (λ (k : Descriptor). has_key graph k ≡ false) (λ k h. not-true (has_key graph k) h) (absent_in graph keys)
    (filter_passes (λ (k : Descriptor). not (has_key graph k)) keys)

-- if all are held, none is absent
pub absent_in-held : (graph : List Node) (keys : List Descriptor) → All (λ (k : Descriptor). has_key graph k ≡ true) keys → absent_in graph keys ≡ []
absent_in-held graph [] held = refl
absent_in-held graph (k ∷ keys) held =
    rw (All-head (λ (k : Descriptor). has_key graph k ≡ true) k keys held) (absent_in-held graph keys (All-tail (λ (k : Descriptor). has_key graph k ≡ true) k keys held))
