-- Items that are pushed one after another, and the keys of a store.
use Rattle.std.proofs.Common.{◌≡◌, ℕ, ◌+◌, ◌<◌, List, [], ◌∷◌, ◌++◌, length, take, drop, map, get_or, slice_get, option_map, Option, Some, inr, sym, ap, subst, ◌∙◌}
use Rattle.std.specs.Borrow.{Bor}
use Rattle.std.specs.List.{All}
use Rattle.std.specs.Map.{keys_of}
use Rattle.std.proofs.Math.Seq.{append_snoc}
use Rattle.std.proofs.lemmas.List.{take_more, drop_more, map-append}
use Rattle.std.proofs.lemmas.List.Elements.{All-append, All-cons, All-nil}
use Rattle.std.proofs.lemmas.Option.{slice_get-get_or}
use Rattle.oci_digest.specs.Algorithm.{Algorithm}
use Rattle.oci_manifest.specs.Descriptor.{Descriptor}
use Rattle.oci_store.specs.Content.{Entry}
use Rattle.oci_store.specs.Contents.{Contents}
use Rattle.oci_tag_commands.specs.Mem.{types_of, AreOfLast, IsDigestedBy, PushesItem}

-- ---- items

-- the types of the entries so far, followed by those of the items that are left, after one more item
pub types_pushed : (a : Algorithm) (items : List (Bor (List ℕ))) (i : ℕ) (d : Bor (List ℕ)) (old new : Contents) (k : Descriptor) → i < length items → PushesItem a (get_or items i d).now old new k
    → map (λ (e : Entry). e.0.media_type) old.entries ++ types_of (drop i items) ≡ types_of items → map (λ (e : Entry). e.0.media_type) new.entries ++ types_of (drop (i + 1) items) ≡ types_of items
types_pushed a items i d old new k lt p so_far =
    let media = λ (e : Entry). e.0.media_type in
    let rest = types_of (drop (i + 1) items) in
    ap (λ (c : Contents). map media c.entries ++ rest) p.pushed
    ∙ ap (λ (types : List (List ℕ)). types ++ rest) (map-append media old.entries (p.entry ∷ []))
    ∙ append_snoc (map media old.entries) (media p.entry) rest
    ∙ ap (λ (t : List ℕ). map media old.entries ++ t ∷ rest) p.entry_type
    ∙ sym (ap (λ (left : List (Bor (List ℕ))). map media old.entries ++ types_of left) (drop_more items i d lt))
    ∙ so_far

-- one more entry is under its digest
pub digest_pushed : (a : Algorithm) (item : List ℕ) (old new : Contents) (k : Descriptor) → PushesItem a item old new k → All (IsDigestedBy a) old.entries → All (IsDigestedBy a) new.entries
digest_pushed a item old new k p before =
    subst (λ (c : Contents). All (IsDigestedBy a) c.entries) (sym p.pushed)
    (All-append (IsDigestedBy a) old.entries (p.entry ∷ []) before (All-cons (IsDigestedBy a) p.entry [] p.digest (All-nil (IsDigestedBy a))))

-- its key is that of the last entry
pub last_pushed : (a : Algorithm) (item : List ℕ) (old new : Contents) (k : Descriptor) (last : List Descriptor) → PushesItem a item old new k → last ≡ k ∷ [] → AreOfLast new.entries last
last_pushed a item old new k last p is =
    inr (old.entries, p.entry, ap (λ (c : Contents). c.entries) p.pushed, is ∙ ap (λ (key : Descriptor). key ∷ []) p.key)

-- ---- keys

keys_more : (entries : List Entry) (i : ℕ) (k : Descriptor) → i < length entries → option_map (λ (e : Entry). e.0) (slice_get entries i) ≡ Some k → keys_of (take (i + 1) entries) ≡ keys_of (take i entries) ++ k ∷ []
keys_more entries i k lt h =
    let d : Entry = (k, []) in
    let at = slice_get-get_or entries i d lt in
    let same : (get_or entries i d).0 ≡ k = cc (sym (ap (λ (o : Option Entry). option_map (λ (e : Entry). e.0) o) at) ∙ h) in
    ap keys_of (take_more entries i d lt) ∙ map-append (λ (e : Entry). e.0) (take i entries) (get_or entries i d ∷ []) ∙ ap (λ (x : Descriptor). keys_of (take i entries) ++ x ∷ []) same

-- the keys so far, and the next one
pub keys_pushed : (entries : List Entry) (i : ℕ) (k : Bor Descriptor) (old new : List (Bor Descriptor)) → i < length entries → option_map (λ (e : Entry). e.0) (slice_get entries i) ≡ Some k.now → new ≡ old ++ k ∷ []
    → map (λ (b : Bor Descriptor). b.now) old ≡ keys_of (take i entries) → map (λ (b : Bor Descriptor). b.now) new ≡ keys_of (take (i + 1) entries)
keys_pushed entries i k old new lt at pushed so_far =
    ap (λ (keys : List (Bor Descriptor)). map (λ (b : Bor Descriptor). b.now) keys) pushed ∙ map-append (λ (b : Bor Descriptor). b.now) old (k ∷ []) ∙ ap (λ (keys : List Descriptor). keys ++ k.now ∷ []) so_far
    ∙ sym (keys_more entries i k.now lt at)
