-- What several removals spare.
use Rattle.std.proofs.Common.{◌≡◌, ◌≢◌, ℕ, zero, suc, ◌+◌, ◌<◌, ◌⊎◌, true, false, inl, inr, List, [], ◌∷◌, ◌++◌, length, take, get_or, None, String, Global, string_bytes, refl, sym, ap, subst, ◌∙◌, map, set, not, is_some, Option, Some, arith, Bool}
use Rattle.std.specs.Prelude.{◌↔◌, Contains}
use Rattle.std.specs.List.{All}
use Rattle.std.specs.Str.{bytes_eq}
use Rattle.std.proofs.lemmas.Bool.{cases_Bool}
use Rattle.std.proofs.lemmas.List.{get_or-map, map-append}
use Rattle.std.proofs.lemmas.List.Elements.{All-head, All-tail, All-contains, All-push, All-weaker, Contains-push, Contains-append_left}
use Rattle.std.proofs.lemmas.Option.{slice_get-get_or}
use Rattle.std.specs.List.{slice_get}
use Rattle.std.proofs.lemmas.Slice.Eq.{bytes_eq-Decides}
use Rattle.oci_store.specs.Graph.{Node}
use Rattle.oci_layout_store.specs.Blobs.{blob_path, stored, IsSound}
use Rattle.oci_layout_store.specs.Keeps.{KeepsSettled}
use Rattle.oci_dir.specs.Device.{Device, Touches}
use Rattle.oci_layout_store.specs.Index.{index_file}
use Rattle.oci_layout_store.specs.Layout.{LayoutState, SameMemory}
use Rattle.oci_dir.specs.Prunable.{by_name}
use Rattle.oci_prune.specs.Pruned.{is_gone, AllAmong, AreApart, AreDraftsGone, IsDraftIn, IsGone, IsNone, IsPathAmong, IsPathOf, IsThere, Spares}
use Rattle.oci_prune.specs.declared.plan.PrunedFile.{PrunedFile}
use Rattle.oci_prune.proofs.Elements.{next_element, Contains-head, Contains-tail}

abbrev pub Paths : Type 1
Paths = List ℕ → Type 0

pub spares_same : (dir : Device) (graph : List Node) (P : Paths) → Spares dir dir graph P
spares_same dir graph P = record { other = λ honest path free. refl; contents = λ honest. refl; sound = λ h. h; honest = (λ h. h, λ h. h); reads = refl }

-- of two changes one after the other
pub same_memory_both : {D : Type 0} (a b c : LayoutState D) → SameMemory a b → SameMemory b c → SameMemory a c
same_memory_both a b c first second = record {
  graph = second.graph ∙ first.graph;
  tags = second.tags ∙ first.tags;
  opened = second.opened ∙ first.opened;
}

pub spares_both : (a b c : Device) (graph : List Node) (P Q T : Paths) → Spares a b graph P → Spares b c graph Q → ((path : List ℕ) → P path → T path) → ((path : List ℕ) → Q path → T path) → Spares a c graph T
spares_both a b c graph P Q T first second p q = record {
  other = λ honest path free. second.other (first.honest.0 honest) path (λ h. free (q path h)) ∙ first.other honest path (λ h. free (p path h));
  contents = λ honest. second.contents (first.honest.0 honest) ∙ first.contents honest;
  sound = λ h. second.sound (first.sound h);
  honest = (λ h. second.honest.0 (first.honest.0 h), λ h. first.honest.1 (second.honest.1 h));
  reads = second.reads ∙ first.reads;
}

-- of two changes of the same paths
pub spares_again : (a b c : Device) (graph now : List Node) (P : Paths) → Spares a b graph P → now ≡ graph → Spares b c now P → Spares a c graph P
spares_again a b c graph now P first same second = spares_both a b c graph P P P first (subst (λ (g : List Node). Spares b c g P) same second) (λ path h. h) (λ path h. h)

-- of a change of some paths, and of one of none
pub removed_again : {D : Type 0} (device : D → Device) (a b c : LayoutState D) (P : Paths) → Spares (device a.dir) (device b.dir) a.graph P → b.graph ≡ a.graph → Spares (device b.dir) (device c.dir) b.graph IsNone → Spares (device a.dir) (device c.dir) a.graph P
removed_again device a b c P first same second =
    spares_both (device a.dir) (device b.dir) (device c.dir) a.graph P IsNone P first (subst (λ (g : List Node). Spares (device b.dir) (device c.dir) g IsNone) same second) (λ path h. h) (λ path h. absurd h)

pub settled_both : (a b c : Device) (graph now : List Node) → (a.is_honest → b.is_honest) → now ≡ graph → KeepsSettled a b graph → KeepsSettled b c now → KeepsSettled a c graph
settled_both a b c graph now honest same first second = λ h k held was. subst (λ (g : List Node). KeepsSettled b c g) same second (honest h) k held (first h k held was)

-- a save touches the index alone
pub spares_index : (a b : Device) (graph : List Node) → (a.is_honest → Touches a.file b.file index_file) → (a.is_honest → stored b.file graph ≡ stored a.file graph) → (IsSound a.is_honest a.file graph → IsSound b.is_honest b.file graph)
    → (a.is_honest ↔ b.is_honest) → b.fails_reads ≡ a.fails_reads → Spares a b graph (λ (path : List ℕ). index_file ≡ path)
spares_index a b graph touches contents sound honest reads = record {
  other = λ h path free. touches h path (apart path free);
  contents = contents;
  sound = sound;
  honest = honest;
  reads = reads;
}
  where
    apart : (path : List ℕ) → (index_file ≡ path → ⊥) → bytes_eq index_file path ≡ false
    apart path free = elim (cases_Bool (bytes_eq index_file path)) [ inl same ↦ absurd (free ((bytes_eq-Decides index_file path).0 same)) | inr other ↦ other ]

-- ---- files

pub among_later : (is_held : Bool) (files : List PrunedFile) (f : PrunedFile) (path : List ℕ) → IsPathAmong is_held files path → IsPathAmong is_held (files ++ f ∷ []) path
among_later is_held files f path h = (h.0, Contains-append_left files (f ∷ []) h.0 h.1, h.2, h.3)

-- the path of one file, if it is held or not as the flag says
abbrev pub IsPathIf : Bool → PrunedFile → List ℕ → Type 0
IsPathIf is_held f path = (f.is_held ≡ is_held) × (blob_path f.digest ≡ path)

pub among_here : (is_held : Bool) (files : List PrunedFile) (f : PrunedFile) (path : List ℕ) → IsPathIf is_held f path → IsPathAmong is_held (files ++ f ∷ []) path
among_here is_held files f path is = (f, Contains-push files f, is.0, is.1)

-- a path among some files is that of one of them
pub path_among : (is_held : Bool) (files : List PrunedFile) (path : List ℕ) → IsPathAmong is_held files path → IsPathOf files path
path_among is_held files path h = (h.0, h.1, h.3)

pub spares_file : (a b c : Device) (graph now : List Node) (is_held : Bool) (files : List PrunedFile) (i : ℕ) (f : PrunedFile) → i < length files → f ≡ get_or files i f → Spares a b graph (IsPathAmong is_held (take i files)) → now ≡ graph
    → Spares b c now (IsPathIf is_held f) → Spares a c graph (IsPathAmong is_held (take (i + 1) files))
spares_file a b c graph now is_held files i f lt is first same second =
    subst (λ (fs : List PrunedFile). Spares a c graph (IsPathAmong is_held fs)) (sym (next_element files i f lt is))
    (spares_both a b c graph (IsPathAmong is_held (take i files)) (IsPathIf is_held f) (IsPathAmong is_held (take i files ++ f ∷ [])) first
    (subst (λ (g : List Node). Spares b c g (IsPathIf is_held f)) same second) (among_later is_held (take i files) f) (among_here is_held (take i files) f))

pub same_flag : (a b : Bool) → (a ≡ b) ⊎ (a ≡ b → ⊥)
same_flag true true = inl refl
same_flag true false = inr (λ e. cc e)
same_flag false true = inr (λ e. cc e)
same_flag false false = inl refl

-- what was removed stays removed
stays_gone : (b c : Device) (graph : List Node) (is_held : Bool) (f other : PrunedFile) → b.is_honest → Spares b c graph (IsPathIf is_held f) → (f.is_held ≡ is_held → IsGone c.file f) → IsGone b.file other → IsGone c.file other
stays_gone b c graph is_held f other honest spares here was =
    elim (cases_Bool (bytes_eq (blob_path f.digest) (blob_path other.digest))) [
      | inl same ↦
          let is = (bytes_eq-Decides (blob_path f.digest) (blob_path other.digest)).0 same in
          elim (same_flag f.is_held is_held) [
            | inl flag ↦ subst (λ (path : List ℕ). c.file path ≡ None) is (here flag)
            | inr never ↦ spares.other honest (blob_path other.digest) (λ p. never p.0) ∙ was
          ]
      | inr apart ↦ spares.other honest (blob_path other.digest) (λ p. cc (sym apart ∙ (bytes_eq-Decides (blob_path f.digest) (blob_path other.digest)).1 p.1)) ∙ was
    ]

-- the files that are to go, up to a place, are gone
pub all_gone : (b c : Device) (graph : List Node) (is_held : Bool) (files : List PrunedFile) (i : ℕ) (f : PrunedFile) → i < length files → f ≡ get_or files i f → b.is_honest → Spares b c graph (IsPathIf is_held f) → (f.is_held ≡ is_held → IsGone c.file f)
    → AllAmong is_held (IsGone b.file) (take i files) → AllAmong is_held (IsGone c.file) (take (i + 1) files)
all_gone b c graph is_held files i f lt is honest spares here before =
    subst (λ (fs : List PrunedFile). AllAmong is_held (IsGone c.file) fs) (sym (next_element files i f lt is))
    (All-push (λ (g : PrunedFile). g.is_held ≡ is_held → IsGone c.file g) (take i files) f
    (All-weaker (λ (g : PrunedFile). g.is_held ≡ is_held → IsGone b.file g) (λ (g : PrunedFile). g.is_held ≡ is_held → IsGone c.file g) (λ other was flag. stays_gone b c graph is_held f other honest spares here (was flag)) (take i files) before) here)

-- ---- flags

pub map_same : {X Y : Type 0} (p q : X → Y) (xs : List X) → All (λ (x : X). p x ≡ q x) xs → map p xs ≡ map q xs
map_same p q [] h = refl
map_same {X} {Y} p q (x ∷ xs) h =
    ap (λ (y : Y). y ∷ map p xs) (All-head (λ (z : X). p z ≡ q z) x xs h) ∙ ap (λ (ys : List Y). q x ∷ ys) (map_same p q xs (All-tail (λ (z : X). p z ≡ q z) x xs h))

at_place : (files : List PrunedFile) (i : ℕ) (f : PrunedFile) → i < length files → f ≡ get_or files i f → slice_get files i ≡ Some f
at_place files i f lt is = slice_get-get_or files i f lt ∙ ap (λ (x : PrunedFile). Some x) (sym is)

-- a file that is there is not removed with those before it
still_there : (a b : Device) (graph : List Node) (is_held : Bool) (files : List PrunedFile) (i : ℕ) (f : PrunedFile) → i < length files → f ≡ get_or files i f → AllAmong is_held (IsThere a.file) files → AreApart files
    → Spares a b graph (IsPathAmong is_held (take i files)) → a.is_honest → f.is_held ≡ is_held → IsThere b.file f
still_there a b graph is_held files i f lt is there apart spares honest flag =
    let was : IsThere a.file f = subst (λ (x : PrunedFile). x.is_held ≡ is_held → IsThere a.file x) (sym is) (there i f lt) flag in
    let free : IsPathAmong is_held (take i files) (blob_path f.digest) → ⊥ = λ p. All-contains (λ (g : PrunedFile). blob_path g.digest ≢ blob_path f.digest) (take i files) p.0 (apart i f (at_place files i f lt is)) p.1 p.3 in
    ap is_some (spares.other honest (blob_path f.digest) free) ∙ was

-- one flag is set, and the others stay right
set_flag : (p q : PrunedFile → Bool) (files : List PrunedFile) (i : ℕ) (f : PrunedFile) (flag : Bool) → slice_get files i ≡ Some f → flag ≡ q f → ((j : ℕ) (g : PrunedFile) → slice_get files j ≡ Some g → i ≢ j → p g ≡ q g) → set (map p files) i flag ≡ map q files
set_flag p q [] i f flag at is same = cc at
set_flag p q (x ∷ files) zero f flag at is same =
    let first : flag ≡ q x = is ∙ ap q (cc at) in
    ap (λ (b : Bool). b ∷ map p files) first
    ∙ ap (λ (bs : List Bool). q x ∷ bs) (map_same p q files (λ j d lt. same (suc j) (get_or files j d) (slice_get-get_or files j d lt) (λ e. cc e)))
set_flag p q (x ∷ files) (suc i) f flag at is same =
    ap (λ (b : Bool). b ∷ set (map p files) i flag) (same zero x refl (λ e. cc e))
    ∙ ap (λ (bs : List Bool). q x ∷ bs) (set_flag p q files i f flag at is (λ j g there other. same (suc j) g there (λ e. other (cc e))))

-- no two files have one path
pub apart_both : (files : List PrunedFile) (i j : ℕ) (f g : PrunedFile) → AreApart files → slice_get files i ≡ Some f → slice_get files j ≡ Some g → i ≢ j → blob_path f.digest ≢ blob_path g.digest
apart_both files i j f g apart at_f at_g other same =
    elim (less_or_more i j other) [
      | inl before ↦ All-contains (λ (h : PrunedFile). blob_path h.digest ≢ blob_path g.digest) (take j files) f (apart j g at_g) (earlier files i j f at_f before) same
      | inr after ↦ All-contains (λ (h : PrunedFile). blob_path h.digest ≢ blob_path f.digest) (take i files) g (apart i f at_f) (earlier files j i g at_g after) (sym same)
    ]
  where
    less_or_more : (m n : ℕ) → m ≢ n → (m < n) ⊎ (n < m)
    less_or_more zero zero never = absurd (never refl)
    less_or_more zero (suc n) never = inl (omega arith)
    less_or_more (suc m) zero never = inr (omega arith)
    less_or_more (suc m) (suc n) never = elim (less_or_more m n (λ e. never (ap suc e))) [ inl lt ↦ inl (omega (arith, lt)) | inr gt ↦ inr (omega (arith, gt)) ]

    earlier : (fs : List PrunedFile) (m n : ℕ) (h : PrunedFile) → slice_get fs m ≡ Some h → m < n → Contains (take n fs) h
    earlier [] m n h at lt = cc at
    earlier (x ∷ fs) m zero h at lt = absurd (omega (arith, lt))
    earlier (x ∷ fs) zero (suc n) h at lt = let is : x ≡ h = cc at in subst (λ (y : PrunedFile). Contains (x ∷ take n fs) y) is (Contains-head x (take n fs))
    earlier (x ∷ fs) (suc m) (suc n) h at lt = Contains-tail x (take n fs) h (earlier fs m n h at (omega (arith, lt)))

pub flags_more : (a b c : Device) (graph now : List Node) (is_held : Bool) (files : List PrunedFile) (i : ℕ) (f : PrunedFile) (gone : List Bool) (was flag : Bool) → i < length files → f ≡ get_or files i f → was ≡ get_or gone i was → AllAmong is_held (IsThere a.file) files
    → AreApart files → Spares a b graph (IsPathAmong is_held (take i files)) → Spares b c now (IsPathIf is_held f) → a.is_honest → gone ≡ map (is_gone b.file) files
    → ((f.is_held ≡ is_held → IsThere b.file f) → was ≡ is_gone b.file f → flag ≡ is_gone c.file f) → set gone i flag ≡ map (is_gone c.file) files
flags_more a b c graph now is_held files i f gone was flag lt is was_is there apart first second honest before step =
    let at = at_place files i f lt is in
    let was_gone : was ≡ is_gone b.file f = was_is ∙ ap (λ (bs : List Bool). get_or bs i was) before ∙ get_or-map (is_gone b.file) files i f was lt ∙ ap (is_gone b.file) (sym is) in
    let flagged = step (still_there a b graph is_held files i f lt is there apart first honest) was_gone in
    ap (λ (bs : List Bool). set bs i flag) before
    ∙ set_flag (is_gone b.file) (is_gone c.file) files i f flag at flagged
    (λ j g at_g other. sym (ap (λ (o : Option (List ℕ)). not (is_some o)) (second.other (first.honest.0 honest) (blob_path g.digest) (λ p. apart_both files i j f g apart at at_g other p.1))))

-- ---- drafts

abbrev pub Drafts : Type 0
Drafts = List (String Global × ℕ)

pub draft_later : (drafts : List (List ℕ × ℕ)) (d : List ℕ × ℕ) (path : List ℕ) → IsDraftIn drafts path → IsDraftIn (drafts ++ d ∷ []) path
draft_later drafts d path h = (h.0, Contains-append_left drafts (d ∷ []) h.0 h.1, h.2)

pub draft_here : (drafts : List (List ℕ × ℕ)) (d : List ℕ × ℕ) (path : List ℕ) → d.0 ≡ path → IsDraftIn (drafts ++ d ∷ []) path
draft_here drafts d path is = (d, Contains-push drafts d, is)

-- the drafts of one step more
pub by_name-next : (drafts : Drafts) (i : ℕ) (d : String Global × ℕ) → i < length drafts → d ≡ get_or drafts i d → by_name (take (i + 1) drafts) ≡ by_name (take i drafts) ++ (string_bytes d.0, d.1) ∷ []
by_name-next drafts i d lt is = ap by_name (next_element drafts i d lt is) ∙ map-append (λ (f : String Global × ℕ). (string_bytes f.0, f.1)) (take i drafts) (d ∷ [])

-- the drafts up to a place are gone, if none comes
pub drafts_gone : (b c : Device) (drafts : Drafts) (i : ℕ) (d : String Global × ℕ) → i < length drafts → d ≡ get_or drafts i d → ((path : List ℕ) → b.draft path ≡ None → c.draft path ≡ None) → c.draft (string_bytes d.0) ≡ None
    → AreDraftsGone b.draft (by_name (take i drafts)) → AreDraftsGone c.draft (by_name (take (i + 1) drafts))
drafts_gone b c drafts i d lt is stay here before =
    let gone : List ℕ × ℕ → Type 0 = λ draft. c.draft draft.0 ≡ None in
    subst (λ (ds : List (List ℕ × ℕ)). All gone ds) (sym (by_name-next drafts i d lt is))
    (All-push gone (by_name (take i drafts)) (string_bytes d.0, d.1) (All-weaker (λ (draft : List ℕ × ℕ). b.draft draft.0 ≡ None) gone (λ draft was. stay draft.0 was) (by_name (take i drafts)) before) here)
