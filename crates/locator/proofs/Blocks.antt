-- The faces of a vertex, block by block: each block has those whose least vertex is one vertex.
use mathlib.Core.Path.{◌≡◌, refl, sym, ap, ◌∙◌}
use mathlib.Core.Bool.{Bool, true, false, cond, ◌&&◌, ◌||◌, and_comm}
use mathlib.Core.List.{List, [], ◌∷◌, ◌++◌, append_assoc, append-nil}
use mathlib.Core.Logic.{⊎_elim}
use Prim.Native.Nat.{ℕ, zero, suc, ◌+◌, ◌*◌, ◌/◌, ◌%◌, ◌≤◌, ◌<◌}
use native.Mathlib.Nat.{mul-add-div_right, mul-add-mod_self_right, mod-eq_of_lt, div-eq_of_lt, add-zero, add-suc, div-lt_iff_lt-mul, mod-lt, eq-or-lt_of_le, le_of_suc-le-suc}
use native.Mathlib.Omega.{arith}
use lib.ListN.{length, set}
use lib.Dec.{ltb, eqb}
use borrow.Author.Tests.{le-ltb, ltb-true, ne_eqb}
use Rattle.lists.specs.Lists.{put, joined, filter}
use Rattle.mesh.specs.Mesh.{Mesh, degree, neighbour, within, lists}
use Rattle.mesh.specs.Faces.{face, is_face, faces_from, extract_faces, has}
use Rattle.mesh.specs.declared.Face.{Face}
use Rattle.lists.proofs.Counting.{any_none, or_none, and_no}
use Rattle.lists.proofs.Written.{filter-append, joined-more, Written, nothing, pushed, chunk}
use Rattle.search.specs.Cells.{faces_of, flat}
use Rattle.locator.specs.Internal.{only, wanted, touches, thirds, block}

module _ {A : Type 0} where
  -- lists that are equal one by one
  pub joined_eq : (n : ℕ) (f g : ℕ → List A) → ((i : ℕ) → i < n → f i ≡ g i) → joined n f ≡ joined n g
  unfolding joined
  joined_eq zero f g h = refl
  joined_eq (suc n) f g h = rw (joined_eq n f g (λ i l. h i (omega arith)), h n (omega arith))

  pub joined-none : (n : ℕ) (f : ℕ → List A) → ((i : ℕ) → i < n → f i ≡ []) → joined n f ≡ []
  unfolding joined
  joined-none zero f h = refl
  joined-none (suc n) f h = rw (joined-none n f (λ i l. h i (omega arith)), h n (omega arith))

  pub joined_split : (k b : ℕ) (f : ℕ → List A) → joined (k + b) f ≡ joined k f ++ joined b (λ y. f (k + y))
  unfolding joined
  joined_split k zero f = rw (add-zero k) (sym (append-nil _))
  joined_split k (suc b) f = rw (add-suc k b, joined_split k b f) (append_assoc (joined k f) (joined b (λ y. f (k + y))) (f (k + b)))

  -- rows of b lists each, one after another
  pub joined-grid : (a b : ℕ) (f : ℕ → ℕ → List A) → 0 < b → joined a (λ x. joined b (λ y. f x y)) ≡ joined (a * b) (λ q. f (q / b) (q % b))
  unfolding joined
  joined-grid zero b f h = let e : 0 * b ≡ 0 = omega arith in rw e
  joined-grid (suc a) b f h =
      let e : suc a * b ≡ a * b + b = omega arith in
      rw (e, joined_split (a * b) b (λ q. f (q / b) (q % b)), ← joined-grid a b f h)
      (ap (λ (l : List A). joined a (λ x. joined b (λ y. f x y)) ++ l) (joined_eq b (λ y. f a y) (λ y. f ((a * b + y) / b) ((a * b + y) % b)) (λ y l. here y l)))
    where
      here : (y : ℕ) → y < b → f a y ≡ f ((a * b + y) / b) ((a * b + y) % b)
      here y l =
          let d : (a * b + y) / b ≡ a = mul-add-div_right h a y ∙ omega (arith, div-eq_of_lt l) in
          let m : (a * b + y) % b ≡ y = mul-add-mod_self_right a b y ∙ mod-eq_of_lt l in
          rw (d, m)

  pub filter-joined : (p : A → Bool) (n : ℕ) (f : ℕ → List A) → filter p (joined n f) ≡ joined n (λ i. filter p (f i))
  unfolding joined filter
  filter-joined p zero f = refl
  filter-joined p (suc n) f = filter-append p (joined n f) (f n) ∙ rw (filter-joined p n f)

  pub filter-only : (p : A → Bool) (b : Bool) (x : A) → filter p (only b x) ≡ only (b && p x) x
  unfolding filter
  filter-only p true x = refl
  filter-only p false x = refl

pub flat_append : (f g : List Face) → flat (f ++ g) ≡ flat f ++ flat g
unfolding flat
flat_append [] g = refl
flat_append (x ∷ f) g = rw (flat_append f g)

pub length-flat : (f : List Face) → length (flat f) ≡ 3 * length f
unfolding flat
length-flat [] = refl
length-flat (x ∷ f) = omega (arith, length-flat f)

-- the faces of v whose least vertices are i and its neighbour at place x
abbrev pub block_row : Mesh → ℕ → ℕ → ℕ → ℕ → List Face
block_row l v i d x = thirds l v i d (neighbour l i x)

-- the faces of v whose least vertex is i, by i's neighbours: filter's joined twice over
pub block-rows : (l : Mesh) (v i d : ℕ) → d ≡ degree l i → block l v i ≡ joined d (block_row l v i d)
unfolding block faces_from wanted thirds
block-rows l v i d e =
    rw e
    (filter-joined (has v) (degree l i) (λ x. joined (degree l i) (λ y. only (is_face l i (neighbour l i x) (neighbour l i y)) (face i (neighbour l i x) (neighbour l i y))))
    ∙ joined_eq (degree l i) _ (block_row l v i (degree l i))
    (λ x lx. filter-joined (has v) (degree l i) (λ y. only (is_face l i (neighbour l i x) (neighbour l i y)) (face i (neighbour l i x) (neighbour l i y)))
    ∙ joined_eq (degree l i) _ (λ y. only (wanted l i (neighbour l i x) (neighbour l i y) v) (face i (neighbour l i x) (neighbour l i y)))
    (λ y ly. filter-only (has v) (is_face l i (neighbour l i x) (neighbour l i y)) (face i (neighbour l i x) (neighbour l i y)))))

-- one of them, or none
abbrev pub third : Mesh → ℕ → ℕ → ℕ → ℕ → List Face
third l v i j y = only (wanted l i j (neighbour l i y) v) (face i j (neighbour l i y))

pub thirds_are : (l : Mesh) (v i d j : ℕ) → thirds l v i d j ≡ joined d (third l v i j)
unfolding thirds
thirds_are l v i d j = refl

pub no_thirds : (l : Mesh) (v i d j : ℕ) → ((k : ℕ) → wanted l i j k v ≡ false) → thirds l v i d j ≡ []
unfolding thirds
no_thirds l v i d j h = joined-none d _ (λ y ly. rw (h (neighbour l i y)))

-- no face has its second vertex at or below its first
pub not_above : (l : Mesh) (i j k v : ℕ) → j ≤ i → wanted l i j k v ≡ false
unfolding wanted is_face
not_above l i j k v h = rw (le-ltb i j h)

-- the four tests in another order
pub wanted_are : (p q r h : Bool) → ((p && (q && r)) && h) ≡ (p && (q && (h && r)))
wanted_are true true r h = and_comm r h
wanted_are true false r h = refl
wanted_are false q r h = refl

-- v is none of the three
pub unwanted : (l : Mesh) (i j k v : ℕ) → (i ≡ v → ⊥) → (i < j → j ≡ v → ⊥) → (i < j → j < k → k ≡ v → ⊥) → wanted l i j k v ≡ false
unfolding wanted is_face has
unwanted l i j k v a b c = by (ltb i j) (ltb j k) refl refl
  where
    by : (s t : Bool) → ltb i j ≡ s → ltb j k ≡ t → (s && (t && lists l j k)) && (eqb i v || (eqb j v || eqb k v)) ≡ false
    by false t p q = refl
    by true false p q = refl
    by true true p q = rw (ne_eqb i v a, ne_eqb j v (b (ltb-true i j p)), ne_eqb k v (c (ltb-true i j p) (ltb-true j k q))) (and_no (lists l j k) false refl)

-- the same pair by pair
abbrev pub piece : Mesh → ℕ → ℕ → ℕ → List Face
piece l v i q =
    only (wanted l i (neighbour l i (q / degree l i)) (neighbour l i (q % degree l i)) v) (face i (neighbour l i (q / degree l i)) (neighbour l i (q % degree l i)))

pub block_is : (l : Mesh) (v i : ℕ) → block l v i ≡ joined (degree l i * degree l i) (piece l v i)
unfolding thirds joined
block_is l v i = block-rows l v i (degree l i) refl ∙ by (degree l i)
  where
    f : ℕ → ℕ → List Face
    f x y = only (wanted l i (neighbour l i x) (neighbour l i y) v) (face i (neighbour l i x) (neighbour l i y))

    by : (d : ℕ) → joined d (λ x. joined d (λ y. f x y)) ≡ joined (d * d) (λ q. f (q / d) (q % d))
    by zero = refl
    by (suc d) = joined-grid (suc d) (suc d) f (omega arith)

-- i's pairs: both are neighbours
pub pair : (d q : ℕ) → q < d * d → (0 < d) × (q / d < d) × (q % d < d)
pair zero q h = absurd (omega arith)
pair (suc d) q h = (omega arith, (div-lt_iff_lt-mul {k = suc d} {x = q} {y = suc d} (omega arith)).1 h, mod-lt q {m = suc d} (omega arith))

-- where v is neither i nor one of its neighbours, no face at i has it
pub untouched : (l : Mesh) (v i : ℕ) → touches l i v ≡ false → block l v i ≡ []
unfolding touches lists within wanted has
untouched l v i e =
    block_is l v i ∙ joined-none (degree l i * degree l i) (piece l v i) (λ q lq. none q lq)
  where
    none : (q : ℕ) → q < degree l i * degree l i → piece l v i q ≡ []
    none q lq =
        let h = or_none (eqb i v) (lists l i v) e in
        let p = pair (degree l i) q lq in
        let x : eqb (neighbour l i (q / degree l i)) v ≡ false = any_none (λ j. eqb (neighbour l i j) v) (q / degree l i) (degree l i) p.1 h.1 in
        let y : eqb (neighbour l i (q % degree l i)) v ≡ false = any_none (λ j. eqb (neighbour l i j) v) (q % degree l i) (degree l i) p.2 h.1 in
        rw (h.0, x, y) (by (is_face l i (neighbour l i (q / degree l i)) (neighbour l i (q % degree l i))))
      where
        by : (b : Bool) → cond (b && false) (face i (neighbour l i (q / degree l i)) (neighbour l i (q % degree l i)) ∷ []) [] ≡ []
        by true = refl
        by false = refl

-- nor has one whose least vertex is above v
pub block-above : (l : Mesh) (v i : ℕ) → v < i → block l v i ≡ []
block-above l v i h =
    block_is l v i
    ∙ joined-none (degree l i * degree l i) (piece l v i)
    (λ q lq. rw (unwanted l i (neighbour l i (q / degree l i)) (neighbour l i (q % degree l i)) v (λ e. absurd (omega arith)) (λ p e. absurd (omega arith)) (λ p r e. absurd (omega arith))))

pub three : (d : List ℕ) (p i j k : ℕ) → p + 3 ≤ length d → set (set (set d p i) (p + 1) j) (p + 2) k ≡ put d p (i ∷ j ∷ k ∷ [])
three d p i j k h =
    let e : p + 1 + 1 ≡ p + 2 = omega arith in
    let w = pushed k (pushed j (pushed i (nothing {d = d} {at = p} (omega arith)) (omega arith)) (omega arith)) (omega arith) in
    rw (← e) w.is

-- a piece more, written
pub more-flat : {d out : List ℕ} (at to : ℕ) (f : ℕ → List Face) (q : ℕ) (out' : List ℕ) (r : ℕ)
    → Written d (3 * at) (flat (joined q f)) out (3 * to) → 3 * (to + length (f q)) ≤ length d → r ≡ to + length (f q) → out' ≡ put out (3 * to) (flat (f q))
    → Written d (3 * at) (flat (joined (q + 1) f)) out' (3 * r)
more-flat at to f q out' r h fits er eo =
    rw (joined-more q f, flat_append (joined q f) (f q))
    (chunk (flat (f q)) out' (3 * r) h (omega (arith, length-flat (f q))) (omega (arith, length-flat (f q))) eo)

-- how far the writing has come
pub come : {d out : List ℕ} (at to : ℕ) (w : List Face) → Written d (3 * at) (flat w) out (3 * to) → to ≡ at + length w
come at to w h = omega (arith, h.next, length-flat w)

pub faces_of_is : (l : Mesh) (n v : ℕ) → faces_of l n v ≡ joined n (block l v)
unfolding faces_of extract_faces block
faces_of_is l n v = filter-joined (has v) n (faces_from l)

-- blocks that are empty
pub joined_skip : {A : Type 0} (f : ℕ → List A) (a b : ℕ) → a ≤ b → ((i : ℕ) → a ≤ i → i < b → f i ≡ []) → joined b f ≡ joined a f
unfolding joined
joined_skip f a zero h e = let z : a ≡ 0 = omega arith in rw z
joined_skip f a (suc b) h e =
    ⊎_elim (λ q. rw q) (λ k. rw (e b (le_of_suc-le-suc k) (omega arith)) (append-nil _ ∙ joined_skip f a b (le_of_suc-le-suc k) (λ i p l. e i p (omega arith)))) (eq-or-lt_of_le h)
