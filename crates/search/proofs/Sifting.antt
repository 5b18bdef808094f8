-- The best of a list's faces from one pass: a face that p is past has no weight above 0 as its least, so where p is past all but one, and that one's least weight is above 0, that one is the
-- best; and where p is past all of them the first is, if its least weight is not below 0. Assumes nothing.
use mathlib.Core.Path.{◌≡◌, refl, sym, ap, ◌∙◌, subst}
use mathlib.Core.Bool.{Bool, true, false, not, ◌&&◌, ◌||◌, cond, true≢false, and-eq-true_iff}
use mathlib.Core.List.{List, [], ◌∷◌}
use mathlib.Core.Logic.{◌⊎◌, inl, inr}
use Prim.Native.Nat.{ℕ, zero, suc, ◌+◌, ◌-◌, ◌*◌, ◌%◌, ◌≤◌, ◌<◌}
use native.Mathlib.Nat.{le_trans, le_of_eq, add-zero, mul-pos}
use native.Mathlib.Omega.{arith}
use lib.Dec.{T, leb, ltb, eqb}
use lib.ListN.{length, get_or, take, drop}
use lib.Seq.{get_or-drop, drop-drop}
use lib.Ieee.{Float, nan, inf, fin, binary64, up, down, lt, le, eq, neg, fits, is_nan, of_bits}
use lib.IntN.{pos}
use lib.Ieee.Fits.{mul-fits, down_pos}
use borrow.Author.Tests.{ltb-true, ltb-false, lt-ltb, le-ltb, leb-true, eqb-true, eqb-false, not-true}
use Rattle.ieee.proofs.Fields.{less_no_nan, more_no_nan}
use Rattle.ieee.specs.Fused.{fused}
use Rattle.float.proofs.Order.{lt_trans, lt_asym, le_not}
use Rattle.float.specs.Order.{smaller, farther}
use Rattle.lists.proofs.Loops.{every_at}
use Rattle.lists.specs.Lists.{every}
use Rattle.mesh.specs.Faces.{face}
use Rattle.mesh.specs.declared.Face.{Face}
use Rattle.search.specs.Geometry.{one, plus, minus, times, over, weights, in_face, vertex_at, projected_barycentric}
use Rattle.search.specs.Cells.{triples}
use Rattle.search.specs.Search.{no_fit, better, fit_from, located_fit, vertex_inside}
use Rattle.search.specs.Internal.{inside, limit_of, fit_over, sides_of, past, past_face, sifted, sift, sift_over}
use Rattle.search.specs.declared.Vector3.{Vector3}
use Rattle.search.specs.declared.Weights.{Weights}
use Rattle.search.specs.declared.Nearest.{Nearest}
use Rattle.search.specs.declared.Fit.{Fit}
use Rattle.search.specs.declared.faces.Within.{Within}
use Rattle.search.specs.declared.triangle.Sides.{Sides}
use Rattle.search.proofs.Laws.{three, stops}
use Rattle.search.proofs.Nearness.{all-within}
use Rattle.search.proofs.Regions.{regions, by_regions}
use Rattle.search.proofs.Signs.{not_above}

abbrev none : Float
none = fin false 0 (pos 0)

-- ---- numbers that are at most 0, and that are at least 0
abbrev Low : Float → Type 0
Low x = (lt none x ≡ false) × T (not (is_nan x))

abbrev High : Float → Type 0
High x = (lt x none ≡ false) × T (not (is_nan x))

-- a size that is not above 0
nothing : (x d : ℕ) → ltb (0 * d) (x * 1) ≡ false → x ≡ 0
nothing x d h = omega (arith, ltb-false (0 * d) (x * 1) h)

something : (x d : ℕ) → ltb (0 * d) (x * 1) ≡ true → 0 < x
something x d h = omega (arith, ltb-true (0 * d) (x * 1) h)

low_below : (b a : Float) → Low b → lt none a ≡ true → lt b a ≡ true
unfolding lt is_nan
low_below nan a h k = absurd h.1
low_below (inf true) nan h k = absurd (true≢false (sym k))
low_below (inf true) (inf true) h k = absurd (true≢false (sym k))
low_below (inf true) (inf false) h k = refl
low_below (inf true) (fin s m e) h k = refl
low_below (inf false) a h k = absurd (true≢false h.0)
low_below (fin t n d) nan h k = absurd (true≢false (sym k))
low_below (fin t n d) (inf true) h k = absurd (true≢false (sym k))
low_below (fin t n d) (inf false) h k = refl
low_below (fin t n d) (fin true m e) h k = absurd (true≢false (sym k))
low_below (fin true n d) (fin false m e) h k = lt-ltb 0 (n * up d * down e + m * up e * down d) (omega (arith, mul-pos (something (m * up e) (down e) k) (down_pos d)))
low_below (fin false n d) (fin false m e) h k =
    let z = nothing (n * up d) (down d) h.0 in
    lt-ltb (n * up d * down e) (m * up e * down d) (rw z (omega (arith, mul-pos (something (m * up e) (down e) k) (down_pos d))))

high_not : (b m : Float) → High b → Low m → lt b m ≡ false
unfolding lt is_nan
high_not nan m h k = absurd h.1
high_not (inf true) m h k = absurd (true≢false h.0)
high_not (inf false) nan h k = refl
high_not (inf false) (inf s) h k = refl
high_not (inf false) (fin s n e) h k = refl
high_not (fin t n d) nan h k = absurd k.1
high_not (fin t n d) (inf true) h k = refl
high_not (fin t n d) (inf false) h k = absurd (true≢false k.0)
high_not (fin false n d) (fin true j e) h k = refl
high_not (fin false n d) (fin false j e) h k = let z = nothing (j * up e) (down e) k.0 in rw z (le-ltb (n * up d * down e) (0 * down d) (omega arith))
high_not (fin true n d) (fin true j e) h k = let z : n * up d ≡ 0 = omega (arith, ltb-false 0 (n * up d * 1 + 0 * down d) h.0) in rw z (le-ltb (j * up e * down d) (0 * down e) (omega arith))
high_not (fin true n d) (fin false j e) h k =
    let z : n * up d ≡ 0 = omega (arith, ltb-false 0 (n * up d * 1 + 0 * down d) h.0) in
    let y = nothing (j * up e) (down e) k.0 in
    rw (z, y) (le-ltb 0 (0 * down e + 0 * down d) (omega arith))

-- ---- the smaller of two, one of them at most 0
low_left : (i w : Float) → Low i → Low (smaller i w)
unfolding farther
low_left i w h = by (is_nan i) (lt w i) refl refl
  where
    by : (s t : Bool) → is_nan i ≡ s → lt w i ≡ t → Low (cond (s || t) w i)
    by true t p q = absurd (subst (λ (z : Bool). T (not z)) p h.1)
    by false true p q = (above (lt none w) refl, less_no_nan w i q)
      where
        above : (z : Bool) → lt none w ≡ z → lt none w ≡ false
        above true r = absurd (true≢false (sym (lt_trans none w i r q) ∙ h.0))
        above false r = r
    by false false p q = h

low_right : (a b : Float) → Low b → Low (smaller a b)
unfolding farther
low_right a b h = by (is_nan a) (lt b a) refl refl
  where
    by : (s t : Bool) → is_nan a ≡ s → lt b a ≡ t → Low (cond (s || t) b a)
    by true t p q = h
    by false true p q = h
    by false false p q = (above (lt none a) refl, subst (λ (z : Bool). T (not z)) (sym p) tt)
      where
        above : (z : Bool) → lt none a ≡ z → lt none a ≡ false
        above true r = absurd (true≢false (sym (low_below b a h r) ∙ q))
        above false r = r

-- ---- the least weight of a face
abbrev least_of : Weights → Float
least_of w = smaller (smaller w.a w.b) w.c

low_none : Low none
unfolding lt is_nan
low_none = (refl, tt)

-- each region but the last has a weight of 0
low_a : (x y : Float) → Low (least_of (weights none x y))
low_a x y = low_left (smaller none x) y (low_left none x low_none)

low_b : (x y : Float) → Low (least_of (weights x none y))
low_b x y = low_left (smaller x none) y (low_right x none low_none)

low_c : (x y : Float) → Low (least_of (weights x y none))
low_c x y = low_right (smaller x y) none low_none

-- where one of six tests passes, that of the last region is not asked
first_six : (a b c d e f : Bool) (u v w x y z r : Weights) → Low (least_of u) → Low (least_of v) → Low (least_of w) → Low (least_of x) → Low (least_of y) → Low (least_of z)
    → ((((a || b) || c) || ((d || e) || f)) ≡ true) → Low (least_of (cond a u (cond b v (cond c w (cond d x (cond e y (cond f z r)))))))
first_six true b c d e f u v w x y z r hu hv hw hx hy hz t = hu
first_six false true c d e f u v w x y z r hu hv hw hx hy hz t = hv
first_six false false true d e f u v w x y z r hu hv hw hx hy hz t = hw
first_six false false false true e f u v w x y z r hu hv hw hx hy hz t = hx
first_six false false false false true f u v w x y z r hu hv hw hx hy hz t = hy
first_six false false false false false true u v w x y z r hu hv hw hx hy hz t = hz
first_six false false false false false false u v w x y z r hu hv hw hx hy hz t = absurd (true≢false (sym t))

-- what plain products tell, the fused ones tell too
told : (x y m : Float) (q : Bool) → T (fits binary64 m) → (lt (times x y) m && q) ≡ true → (le (fused x y (neg m)) none && q) ≡ true
told x y m q f h = let k = (and-eq-true_iff (lt (times x y) m) q).0 h in rw (not_above x y m f k.0, k.1)

any_six : (a b c d e f c' e' f' : Bool) → (c' ≡ true → c ≡ true) → (e' ≡ true → e ≡ true) → (f' ≡ true → f ≡ true)
    → (((a || b) || c') || ((d || e') || f')) ≡ true → (((a || b) || c) || ((d || e) || f)) ≡ true
any_six true b c d e f c' e' f' p q r h = refl
any_six false true c d e f c' e' f' p q r h = refl
any_six false false c d e f true e' f' p q r h = rw (p refl)
any_six false false true d e f false e' f' p q r h = refl
any_six false false false true e f false e' f' p q r h = refl
any_six false false false false e f false true f' p q r h = rw (q refl)
any_six false false false false true f false false f' p q r h = refl
any_six false false false false false f false false true p q r h = rw (r refl)
any_six false false false false false f false false false p q r h = absurd (true≢false (sym h))

past_low : (s : Sides) → past s ≡ true → Low (least_of (regions s))
unfolding past of_bits
past_low s h =
    let vc = fused s.d1 s.d4 (neg (times s.d3 s.d2)) in
    let vb = fused s.d5 s.d2 (neg (times s.d1 s.d6)) in
    let va = fused s.d3 s.d6 (neg (times s.d5 s.d4)) in
    let v = over s.d1 (minus s.d1 s.d3) in
    let w = over s.d2 (minus s.d2 s.d6) in
    let x = over (minus s.d4 s.d3) (plus (minus s.d4 s.d3) (minus s.d5 s.d6)) in
    let atA = le s.d1 none && le s.d2 none in
    let at_b = le none s.d3 && le s.d4 s.d3 in
    let ab = le none s.d1 && le s.d3 none in
    let atC = le none s.d6 && le s.d5 s.d6 in
    let ac = le none s.d2 && le s.d6 none in
    let bc = le none (minus s.d4 s.d3) && le none (minus s.d5 s.d6) in
    first_six atA at_b (le vc none && ab) atC (le vb none && ac) (le va none && bc)
    (weights one none none) (weights none one none) (weights (minus one v) v none) (weights none none one) (weights (minus one w) none w) (weights none (minus one x) x) (in_face va vb vc)
    (low_c one none) (low_c none one) (low_c (minus one v) v) (low_a none one) (low_b (minus one w) w) (low_a (minus one x) x)
    (any_six atA at_b (le vc none && ab) atC (le vb none && ac) (le va none && bc)
    (lt (times s.d1 s.d4) (times s.d3 s.d2) && ab) (lt (times s.d5 s.d2) (times s.d1 s.d6) && ac) (lt (times s.d3 s.d6) (times s.d5 s.d4) && bc)
    (told s.d1 s.d4 (times s.d3 s.d2) ab (mul-fits binary64 s.d3 s.d2))
    (told s.d5 s.d2 (times s.d1 s.d6) ac (mul-fits binary64 s.d1 s.d6))
    (told s.d3 s.d6 (times s.d5 s.d4) bc (mul-fits binary64 s.d5 s.d4)) h)

-- ---- faces of a list
module _ (vs : List Float) (p : Vector3) where
  abbrev weights_in : Face → Weights
  weights_in f = projected_barycentric p (vertex_at vs f.a) (vertex_at vs f.b) (vertex_at vs f.c)

  abbrev fit_of : Face → Fit
  fit_of f = record { face = f; weights = weights_in f; least = least_of (weights_in f) }

  past-face : (f : Face) → past_face vs p f ≡ true → Low (fit_of f).least
  past-face f h = rw (by_regions p (vertex_at vs f.a) (vertex_at vs f.b) (vertex_at vs f.c)) (past_low (sides_of p (vertex_at vs f.a) (vertex_at vs f.b) (vertex_at vs f.c)) h)

  better_by : (best : Fit) (f : Face) (t : Bool) → lt best.least (fit_of f).least ≡ t → better vs p best f ≡ cond t (fit_of f) best
  unfolding better
  better_by best f t h = rw h

  -- past a face, the best so far is at most 0 if it was
  stays_low : (best : Fit) (f : Face) → Low best.least → past_face vs p f ≡ true → Low (better vs p best f).least
  stays_low best f h k = by (lt best.least (fit_of f).least) refl
    where
      by : (t : Bool) → lt best.least (fit_of f).least ≡ t → Low (better vs p best f).least
      by true q = rw (better_by best f true q) (past-face f k)
      by false q = rw (better_by best f false q) h

  -- and one that is at least 0 stays the best past all that follow
  stays : (best : Fit) → High best.least → (l : List Face) → every (past_face vs p) l ≡ true → fit_from vs p best l ≡ best
  unfolding fit_from every
  stays best h [] k = refl
  stays best h (f ∷ l) k =
      let j = (and-eq-true_iff (past_face vs p f) (every (past_face vs p) l)).0 k in
      rw (better_by best f false (high_not best.least (fit_of f).least h (past-face f j.0))) (stays best h l j.1)

  -- ---- the pass
  sifted_by : (w : Within) (i : ℕ) (f : Face) (t : Bool) → past_face vs p f ≡ t → sifted vs p w i f ≡ cond t w (record { count = cond (eqb w.count 0) 1 2; at = i })
  unfolding sifted
  sifted_by w i f t h = rw h

  next : (c : ℕ) → c ≤ 2 → (c ≤ cond (eqb c 0) 1 2) × (cond (eqb c 0) 1 2 ≤ 2)
  next c h = by (eqb c 0) refl
    where
      by : (t : Bool) → eqb c 0 ≡ t → (c ≤ cond t 1 2) × (cond t 1 2 ≤ 2)
      by true e = let z = eqb-true c 0 e in (omega arith, omega arith)
      by false e = (h, omega arith)

  more : (c : ℕ) → c ≤ 1 → cond (eqb c 0) 1 2 ≡ c + 1
  more c h = by (eqb c 0) refl
    where
      by : (t : Bool) → eqb c 0 ≡ t → cond t 1 2 ≡ c + 1
      by true e = let z = eqb-true c 0 e in omega arith
      by false e = let z = eqb-false c 0 e in omega (arith, apart c z)
        where
          apart : (c : ℕ) → (c ≡ 0 → ⊥) → 1 ≤ c
          apart zero z = absurd (z refl)
          apart (suc c) z = omega arith

  grows : (l : List ℕ) (i : ℕ) (w : Within) → w.count ≤ 2 → w.count ≤ (sift vs p i w l).count
  unfolding sift
  grows [] i w h = omega arith
  grows (a ∷ []) i w h = omega arith
  grows (a ∷ b ∷ []) i w h = omega arith
  grows (a ∷ b ∷ c ∷ l) i w h = by (grows l (i + 3)) (past_face vs p (face a b c)) refl
    where
      by : ((v : Within) → v.count ≤ 2 → v.count ≤ (sift vs p (i + 3) v l).count) → (t : Bool) → past_face vs p (face a b c) ≡ t → w.count ≤ (sift vs p (i + 3) (sifted vs p w i (face a b c)) l).count
      by rest true e = rw (sifted_by w i (face a b c) true e) (rest w h)
      by rest false e =
          let n = next w.count h in
          rw (sifted_by w i (face a b c) false e) (le_trans n.0 (rest (record { count = cond (eqb w.count 0) 1 2; at = i }) n.1))

  -- where no face was added, p is past all of them
  all_past : (l : List ℕ) (i : ℕ) (w : Within) → w.count ≤ 1 → (sift vs p i w l).count ≤ w.count → (every (past_face vs p) (triples l) ≡ true) × (sift vs p i w l ≡ w)
  unfolding sift every triples
  all_past [] i w h k = (refl, refl)
  all_past (a ∷ []) i w h k = (refl, refl)
  all_past (a ∷ b ∷ []) i w h k = (refl, refl)
  all_past (a ∷ b ∷ c ∷ l) i w h k = by (all_past l (i + 3) w h) (past_face vs p (face a b c)) refl
    where
      by : ((sift vs p (i + 3) w l).count ≤ w.count → (every (past_face vs p) (triples l) ≡ true) × (sift vs p (i + 3) w l ≡ w)) → (t : Bool) → past_face vs p (face a b c) ≡ t → ((past_face vs p (face a b c) && every (past_face vs p) (triples l)) ≡ true) × (sift vs p (i + 3) (sifted vs p w i (face a b c)) l ≡ w)
      by rest true e =
          let s = sifted_by w i (face a b c) true e in
          let r = rest (subst (λ (x : Within). (sift vs p (i + 3) x l).count ≤ w.count) s k) in
          (rw e r.0, rw s r.1)
      by rest false e =
          let s = sifted_by w i (face a b c) false e in
          let m = more w.count h in
          let g = grows l (i + 3) (record { count = cond (eqb w.count 0) 1 2; at = i }) (next w.count (omega arith)).1 in
          absurd (clash w.count _ _ m g (subst (λ (x : Within). (sift vs p (i + 3) x l).count ≤ w.count) s k))
        where
          clash : (c x y : ℕ) → x ≡ c + 1 → x ≤ y → y ≤ c → ⊥
          clash c x y a b d = omega arith

  -- ---- the face at a place of the list
  abbrev face_at : List ℕ → ℕ → Face
  face_at l j = face (get_or l j 0) (get_or l (j + 1) 0) (get_or l (j + 2) 0)

  here : (all l : List ℕ) (i a b c : ℕ) → drop i all ≡ a ∷ b ∷ c ∷ l → (face_at all i ≡ face a b c) × (drop (i + 3) all ≡ l)
  here all l i a b c h =
      let x : get_or all i 0 ≡ a = ap (λ (j : ℕ). get_or all j 0) (sym (add-zero i)) ∙ sym (get_or-drop i all 0 0) ∙ ap (λ (y : List ℕ). get_or y 0 0) h in
      let y : get_or all (i + 1) 0 ≡ b = sym (get_or-drop i all 1 0) ∙ ap (λ (y : List ℕ). get_or y 1 0) h in
      let z : get_or all (i + 2) 0 ≡ c = sym (get_or-drop i all 2 0) ∙ ap (λ (y : List ℕ). get_or y 2 0) h in
      (rw (x, y, z), sym (drop-drop 3 i all) ∙ ap (drop 3) h)

  zero_one : (n : ℕ) → n ≡ 0 → n ≡ 1 → ⊥
  zero_one n a b = omega arith

  -- past all but one, which has its least weight above 0
  pub the_one : (all l : List ℕ) (i : ℕ) (best : Fit) (w : Within) → drop i all ≡ l → Low best.least → w.count ≡ 0 → (sift vs p i w l).count ≡ 1
      → lt none (fit_of (face_at all (sift vs p i w l).at)).least ≡ true → fit_from vs p best (triples l) ≡ fit_of (face_at all (sift vs p i w l).at)
  unfolding sift triples fit_from
  the_one all [] i best w d h z o t = absurd (zero_one w.count z o)
  the_one all (a ∷ []) i best w d h z o t = absurd (zero_one w.count z o)
  the_one all (a ∷ b ∷ []) i best w d h z o t = absurd (zero_one w.count z o)
  the_one all (a ∷ b ∷ c ∷ l) i best w d h z o t = by (the_one all l (i + 3) (better vs p best (face a b c)) w (here all l i a b c d).1) (past_face vs p (face a b c)) refl
    where
      by : (Low (better vs p best (face a b c)).least → w.count ≡ 0 → (sift vs p (i + 3) w l).count ≡ 1 → lt none (fit_of (face_at all (sift vs p (i + 3) w l).at)).least ≡ true
          → fit_from vs p (better vs p best (face a b c)) (triples l) ≡ fit_of (face_at all (sift vs p (i + 3) w l).at))
          → (u : Bool) → past_face vs p (face a b c) ≡ u → fit_from vs p (better vs p best (face a b c)) (triples l) ≡ fit_of (face_at all (sift vs p (i + 3) (sifted vs p w i (face a b c)) l).at)
      by rest true e =
          let s = sifted_by w i (face a b c) true e in
          rw s
          (rest (stays_low best (face a b c) h e) z (subst (λ (x : Within). (sift vs p (i + 3) x l).count ≡ 1) s o)
          (subst (λ (x : Within). lt none (fit_of (face_at all (sift vs p (i + 3) x l).at)).least ≡ true) s t))
      by rest false e =
          let v : Within = record { count = 1; at = i } in
          let s : sifted vs p w i (face a b c) ≡ v = sifted_by w i (face a b c) false e ∙ rw z in
          let r = all_past l (i + 3) v (omega arith) (le_of_eq (subst (λ (x : Within). (sift vs p (i + 3) x l).count ≡ 1) s o)) in
          let j : face_at all (sift vs p (i + 3) (sifted vs p w i (face a b c)) l).at ≡ face a b c = rw (s, r.1) (here all l i a b c d).0 in
          let m = subst (λ (x : Face). lt none (fit_of x).least ≡ true) j t in
          ap (λ (x : Fit). fit_from vs p x (triples l)) (better_by best (face a b c) true (low_below best.least (fit_of (face a b c)).least h m))
          ∙ stays (fit_of (face a b c)) (lt_asym none (fit_of (face a b c)).least m, more_no_nan none (fit_of (face a b c)).least m) (triples l) r.0
          ∙ ap fit_of (sym j)

  -- past all of them, the first having no weight below 0
  pub the_first : (all l : List ℕ) (i : ℕ) (best : Fit) (w : Within) → drop i all ≡ l → 3 ≤ length l → w.count ≡ 0 → (sift vs p i w l).count ≡ 0
      → lt best.least (fit_of (face_at all i)).least ≡ true → High (fit_of (face_at all i)).least → (sift vs p i w l ≡ w) × (fit_from vs p best (triples l) ≡ fit_of (face_at all i))
  unfolding triples fit_from every
  the_first all [] i best w d h z o b t = absurd (omega (arith, h))
  the_first all (x ∷ []) i best w d h z o b t = absurd (omega (arith, h))
  the_first all (x ∷ y ∷ []) i best w d h z o b t = absurd (omega (arith, h))
  the_first all (x ∷ y ∷ c ∷ l) i best w d h z o b t =
      let r = all_past (x ∷ y ∷ c ∷ l) i w (omega arith) (le_of_eq (o ∙ sym z)) in
      let j = (here all l i x y c d).0 in
      let k = (and-eq-true_iff (past_face vs p (face x y c)) (every (past_face vs p) (triples l))).0 r.0 in (
        r.1,
        ap (λ (f : Fit). fit_from vs p f (triples l)) (better_by best (face x y c) true (subst (λ (f : Face). lt best.least (fit_of f).least ≡ true) j b))
            ∙ stays (fit_of (face x y c)) (subst (λ (f : Face). High (fit_of f).least) j t) (triples l) k.1
            ∙ ap fit_of (sym j),
      )

  -- the place is one of the list's
  pub at_inside : (l : List ℕ) (i : ℕ) (w : Within) → w.at + 3 ≤ i + length l → (sift vs p i w l).at + 3 ≤ i + length l
  unfolding sift
  at_inside [] i w h = h
  at_inside (a ∷ []) i w h = h
  at_inside (a ∷ b ∷ []) i w h = h
  at_inside (a ∷ b ∷ c ∷ l) i w h = by (at_inside l (i + 3)) (past_face vs p (face a b c)) refl
    where
      by : ((v : Within) → v.at + 3 ≤ i + 3 + length l → (sift vs p (i + 3) v l).at + 3 ≤ i + 3 + length l) → (t : Bool) → past_face vs p (face a b c) ≡ t
          → (sift vs p (i + 3) (sifted vs p w i (face a b c)) l).at + 3 ≤ i + suc (suc (suc (length l)))
      by rest true e = rw (sifted_by w i (face a b c) true e) (omega (arith, rest w (omega (arith, h))))
      by rest false e = rw (sifted_by w i (face a b c) false e) (omega (arith, rest (record { count = cond (eqb w.count 0) 1 2; at = i }) (omega arith)))

-- ---- the turns of the pass
module _ (vs : List Float) (n : ℕ) (p : Vector3) (l : List ℕ) where
  pub sift_turn : (w : Within) (i a b c : ℕ) → 3 ≤ length l → a ≡ get_or l 0 0 → b ≡ get_or l 1 0 → c ≡ get_or l 2 0
      → (inside n (length vs) a && (inside n (length vs) b && inside n (length vs) c)) ≡ true
      → sift_over vs n p i w l ≡ sift_over vs n p (i + 3) (sifted vs p w i (face a b c)) (take (length l - 3) (drop 3 l))
  unfolding sift_over every sift vertex_inside
  sift_turn w i a b c h x y z t = ap (sift_over vs n p i w) (three l a b c h x y z) ∙ turn (take (length l - 3) (drop 3 l))
    where
      turn : (m : List ℕ) → sift_over vs n p i w (a ∷ b ∷ c ∷ m) ≡ sift_over vs n p (i + 3) (sifted vs p w i (face a b c)) m
      turn m =
          let k = (and-eq-true_iff (inside n (length vs) a) (inside n (length vs) b && inside n (length vs) c)).0 t in
          let o = (and-eq-true_iff (inside n (length vs) b) (inside n (length vs) c)).0 k.1 in
          rw (k.0, o.0, o.1)

  pub sift_stop : (w : Within) (i a b c : ℕ) → 3 ≤ length l → a ≡ get_or l 0 0 → b ≡ get_or l 1 0 → c ≡ get_or l 2 0
      → (inside n (length vs) a && (inside n (length vs) b && inside n (length vs) c)) ≡ false → sift_over vs n p i w l ≡ record { count = 2; at = 0 }
  unfolding sift_over every vertex_inside
  sift_stop w i a b c h x y z t =
      rw (three l a b c h x y z, stops (inside n (length vs) a) (inside n (length vs) b) (inside n (length vs) c) (every (vertex_inside vs n) (take (length l - 3) (drop 3 l))) t)

pub sift_end : (vs : List Float) (n : ℕ) (p : Vector3) (i : ℕ) (w : Within) (l : List ℕ) → length l < 3 → length l % 3 ≡ 0 → sift_over vs n p i w l ≡ w
unfolding sift_over every sift
sift_end vs n p i w [] h k = refl
sift_end vs n p i w (a ∷ l) h k = absurd (omega (arith, h, k))

-- ---- what one pass tells
-- the pass ended with none or one
module _ (vs : List Float) (n : ℕ) (p : Vector3) (l : List ℕ) (w : Within) (e : w ≡ sift_over vs (limit_of n (length vs)) p 0 (record { count = 0; at = 0 }) l) (few : w.count ≤ 1) where
  abbrev limit : ℕ
  limit = limit_of n (length vs)

  abbrev start : Within
  start = record { count = 0; at = 0 }

  ended : (every (vertex_inside vs limit) l ≡ true) × (w ≡ sift vs p 0 start l)
  unfolding sift_over
  ended = by (every (vertex_inside vs limit) l) refl e
    where
      by : (t : Bool) → every (vertex_inside vs limit) l ≡ t → w ≡ cond t (sift vs p 0 start l) (record { count = 2; at = 0 }) → (every (vertex_inside vs limit) l ≡ true) × (w ≡ sift vs p 0 start l)
      by true h k = (h, k)
      by false h k = absurd (clash w.count few (ap (λ (x : Within). x.count) k))
        where
          clash : (c : ℕ) → c ≤ 1 → c ≡ 2 → ⊥
          clash c a b = omega arith

  pub told_room : 3 ≤ length l → w.at + 3 ≤ length l
  told_room h = rw ended.1 (omega (arith, at_inside vs p l 0 start (omega arith)))

  pub told_inside : (j : ℕ) → j < length l → 3 * get_or l j 0 + 3 ≤ length vs
  unfolding vertex_inside
  told_inside j h = let v = get_or l j 0 in leb-true (3 * v + 3) (length vs) ((and-eq-true_iff (ltb v limit) (leb (3 * v + 3) (length vs))).0 (every_at (vertex_inside vs limit) l j 0 ended.0 h)).1

  abbrev f : Face
  f = face_at vs p l w.at

  -- the face that was found has a least weight
  found : (b : Fit) → b ≡ better vs p no_fit f → (lt none b.least ≡ true) ⊎ (le none b.least ≡ true) → (b ≡ fit_of vs p f) × (lt (inf true) (fit_of vs p f).least ≡ true)
  unfolding lt le eq
  found b h o = by (lt (inf true) (fit_of vs p f).least) refl
    where
      never : (b : Fit) → b ≡ no_fit → (lt none b.least ≡ true) ⊎ (le none b.least ≡ true) → ⊥
      never b h (inl o) = true≢false (sym o ∙ ap (λ (x : Fit). lt none x.least) h)
      never b h (inr o) = true≢false (sym o ∙ ap (λ (x : Fit). le none x.least) h)

      by : (t : Bool) → lt (inf true) (fit_of vs p f).least ≡ t → (b ≡ fit_of vs p f) × (lt (inf true) (fit_of vs p f).least ≡ true)
      by true k = (h ∙ better_by vs p no_fit f true k, k)
      by false k = absurd (never b (h ∙ better_by vs p no_fit f false k) o)

  pub told_best : 3 ≤ length l → (v : Nearest) (b : Fit) → b ≡ better vs p no_fit f → (lt none b.least || (eqb w.count 0 && le none b.least)) ≡ true → located_fit v b ≡ fit_over vs n p v no_fit l
  unfolding fit_over is_nan lt
  told_best h v b k o = rw (all-within vs n l, ended.0) (ap (located_fit v) (sym (by (lt none b.least) (eqb w.count 0) refl refl o)))
    where
      at_least : (x : Float) → T (not (is_nan x)) → le none x ≡ true → High x
      at_least x i g = (not-true (lt x none) (sym (le_not none x tt i) ∙ g), i)

      -- with none, the first
      first : w.count ≡ 0 → (lt none b.least ≡ true) ⊎ (le none b.least ≡ true) → fit_from vs p no_fit (triples l) ≡ b
      first z g =
          let q = found b k g in
          let r = (all_past vs p l 0 start (omega arith) (le_of_eq (sym (ap (λ (x : Within). x.count) ended.1) ∙ z))).1 in
          let j : f ≡ face_at vs p l 0 = ap (λ (x : Within). face_at vs p l x.at) (ended.1 ∙ r) in
          let i = more_no_nan (inf true) (fit_of vs p f).least q.1 in
          (the_first vs p l l 0 no_fit start refl h refl (sym (ap (λ (x : Within). x.count) ended.1) ∙ z)
          (subst (λ (x : Face). lt (inf true) (fit_of vs p x).least ≡ true) j q.1) (subst (λ (x : Face). High (fit_of vs p x).least) j (high i q.0 g))).1
          ∙ ap (fit_of vs p) (sym j) ∙ sym q.0
        where
          high : T (not (is_nan (fit_of vs p f).least)) → b ≡ fit_of vs p f → (lt none b.least ≡ true) ⊎ (le none b.least ≡ true) → High (fit_of vs p f).least
          high i q (inl g) = (lt_asym none (fit_of vs p f).least (subst (λ (x : Fit). lt none x.least ≡ true) q g), i)
          high i q (inr g) = at_least (fit_of vs p f).least i (subst (λ (x : Fit). le none x.least ≡ true) q g)

      only : (w.count ≡ 0 → ⊥) → lt none b.least ≡ true → fit_from vs p no_fit (triples l) ≡ b
      only z g =
          let q = found b k (inl g) in
          let j : f ≡ face_at vs p l (sift vs p 0 start l).at = ap (λ (x : Within). face_at vs p l x.at) ended.1 in
          the_one vs p l l 0 no_fit start refl (refl, tt) refl (sym (ap (λ (x : Within). x.count) ended.1) ∙ single w.count z few)
          (subst (λ (x : Face). lt none (fit_of vs p x).least ≡ true) j (subst (λ (x : Fit). lt none x.least ≡ true) q.0 g))
          ∙ ap (fit_of vs p) (sym j) ∙ sym q.0
        where
          single : (c : ℕ) → (c ≡ 0 → ⊥) → c ≤ 1 → c ≡ 1
          single zero z h = absurd (z refl)
          single (suc c) z h = omega arith

      by : (s t : Bool) → lt none b.least ≡ s → eqb w.count 0 ≡ t → (s || (t && le none b.least)) ≡ true → fit_from vs p no_fit (triples l) ≡ b
      by true true x y o = first (eqb-true w.count 0 y) (inl x)
      by true false x y o = only (eqb-false w.count 0 y) x
      by false true x y o = first (eqb-true w.count 0 y) (inr o)
      by false false x y o = absurd (true≢false (sym o))
