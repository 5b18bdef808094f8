-- Records and the words that they stand for, a whole list at a time. Assumes nothing.
use mathlib.Core.Path.{◌≡◌, refl, sym, ap, subst, ◌∙◌}
use mathlib.Core.Bool.{Bool, true, false, ◌&&◌, and-eq-true_iff}
use mathlib.Core.List.{List, [], ◌∷◌}
use mathlib.Core.Logic.{⊎_elim}
use Prim.Native.Nat.{ℕ, zero, suc, ◌<◌, ◌≤◌, zero-le}
use native.Mathlib.Omega.{arith}
use lib.ListN.{length, get_or, length-map}
use lib.Seq.{ext_get_or, get_or-set_same, get_or-set_other}
use lib.Dec.{leb}
use borrow.Author.Tests.{le-leb, leb-true, lt-ltb}
use Rattle.ieee.proofs.Pack.{le_or_lt}
use Rattle.lists.specs.Lists.{for_each, every}
use Rattle.lists.specs.Questions.{ask}
use Rattle.rows.specs.Rows.{rows_of, resolution_at}
use Rattle.rows.specs.Words.{word_kind, word_level, word_value, word_rows}
use Rattle.rows.proofs.InWords.{word_kind_lem, word_level_lem, word_value_lem, kind_at, level_at, value_at, words_of, kinds_long, levels_long, values_long, map-set, replaced_in}
use Rattle.words.specs.Moves.{rests_clear, rows_fit}
use Rattle.words.proofs.Zipped.{kind_fits}
use Rattle.lent.specs.declared.RowRecord.{RowRecord}
use Rattle.lent.specs.Records.{columns, record_at, record_of, word_in, words_in, gather_number, spread_number, taken, copied, gathered, spread_out}
use Rattle.lent.specs.Forms.{RowsAlike}
use Rattle.lent.proofs.Entries.{none, read, word_read, length-copied}

-- no word has a rest
abbrev pub Clear : List ℕ → Type 0
Clear ws = (s : ℕ) → word_kind (get_or ws s 0) ≤ 255

-- ---- the first n entries copied

copied_at : {A : Type 0} (n : ℕ) (f : ℕ → A) (xs : List A) (d : A) (i : ℕ) → i < n → n ≤ length xs → get_or (copied n f xs) i d ≡ f i
unfolding for_each
copied_at {A = A} zero f xs d i h k = elim h [ ]
copied_at (suc n) f xs d i h k =
    ⊎_elim (λ (low : n ≤ i). let e : i ≡ n = omega (arith, low, h) in rw e (get_or-set_same (copied n f xs) n (f n) d (omega (arith, length-copied n f xs, k))))
    (λ (low : i < n). let other : (i ≡ n → ⊥) = λ e. omega (arith, low, e) in get_or-set_other (copied n f xs) n i (f n) d other ∙ copied_at n f xs d i low (omega (arith, k)))
    (le_or_lt n i)

-- a list copied whole
copied_all : {A : Type 0} (n : ℕ) (f : ℕ → A) (xs ys : List A) (d : A) → length xs ≡ n → length ys ≡ n → ((i : ℕ) → i < n → f i ≡ get_or ys i d) → copied n f xs ≡ ys
copied_all n f xs ys d hx hy each =
    ext_get_or d (copied n f xs) ys (length-copied n f xs ∙ hx ∙ sym hy)
    (λ i h. let l : i < n = omega (arith, h, length-copied n f xs, hx) in copied_at n f xs d i l (omega (arith, hx)) ∙ each i l)

-- ---- the bridge, there being as many words as records

taken-all : (number n : ℕ) → number ≡ 0 → taken number n ≡ n
unfolding taken
taken-all number n e = rw e

spread_zero : (n k : ℕ) → n ≤ k → spread_number n k ≡ 0
unfolding spread_number ask
spread_zero n k h = rw (le-leb n k h)

all_clear : (n : ℕ) (ws : List ℕ) → Clear ws → rests_clear n ws ≡ true
unfolding rests_clear every
all_clear zero ws h = refl
all_clear (suc n) [] h = refl
all_clear (suc n) (w ∷ ws) h = rw (lt-ltb (word_kind w) 256 (omega (arith, h 0))) (all_clear n ws (λ s. h (suc s)))

gather_zero : (n : ℕ) (ws : List ℕ) → n ≤ length ws → Clear ws → gather_number n ws ≡ 0
unfolding gather_number ask
gather_zero n ws h k = rw (le-leb n (length ws) h, all_clear n ws k)

pub spread_words : (rs : List RowRecord) (ws : List ℕ) → length ws ≡ length rs → spread_out rs ws ≡ record { number = 0; words = words_in rs }
spread_words rs ws h =
    let n = length rs in
    let e = spread_zero n (length ws) (omega (arith, h)) in
    rw (taken-all _ n e, e, copied_all n (λ s. get_or (words_in rs) s 0) ws (words_in rs) 0 h (length-map rs word_in) (λ i l. refl))

pub gather_words : (rs : List RowRecord) (ws : List ℕ) → length ws ≡ length rs → Clear ws → words_in (gathered ws rs) ≡ ws
gather_words rs ws h k =
    let n = length rs in
    let f = record_at (word_rows ws) in
    let zs = copied n f rs in
    let long : length (words_in zs) ≡ n = length-map zs word_in ∙ length-copied n f rs in
    rw (taken-all _ n (gather_zero n ws (omega (arith, h)) k))
    (ext_get_or 0 (words_in zs) ws (long ∙ sym h)
    (λ i l. let j : i < n = omega (arith, l, long) in sym (word_read zs i) ∙ ap word_in (copied_at n f rs none i j (omega arith)) ∙ words_of ws i))

pub long_gathered : (rs : List RowRecord) (ws : List ℕ) → length (gathered ws rs) ≡ length rs
long_gathered rs ws = length-copied (taken (gather_number (length rs) ws) (length rs)) (record_at (word_rows ws)) rs

-- a rest is refused
not_clear : (n : ℕ) (ws : List ℕ) (s : ℕ) → n ≤ length ws → s < n → 255 < word_kind (get_or ws s 0) → (q : Bool) → rests_clear n ws ≡ q → q ≡ false
not_clear n ws s h k r true e = absurd (omega (arith, r, kind_fits n ws s e k h))
not_clear n ws s h k r false e = refl

fifteen : (n : ℕ) (ws : List ℕ) (s : ℕ) → n ≤ length ws → s < n → 255 < word_kind (get_or ws s 0) → gather_number n ws ≡ 15
unfolding gather_number ask
fifteen n ws s h k r = rw (le-leb n (length ws) h, not_clear n ws s h k r (rests_clear n ws) refl)

rest_left : (rs : List RowRecord) (ws : List ℕ) → gather_number (length rs) ws ≡ 15 → gathered ws rs ≡ rs
unfolding taken for_each
rest_left rs ws e = rw e

-- ---- the numbers of records, where they fit

at_most : (k : ℕ) (l : List ℕ) → every (λ x. leb x k) l ≡ true → (s : ℕ) → get_or l s 0 ≤ k
unfolding every
at_most k [] e s = zero-le
at_most k (x ∷ l) e zero = leb-true x k ((and-eq-true_iff (leb x k) (every (λ y. leb y k) l)).0 e).0
at_most k (x ∷ l) e (suc s) = at_most k l ((and-eq-true_iff (leb x k) (every (λ y. leb y k) l)).0 e).1 s

module _ (rs : List RowRecord) (h : rows_fit (columns rs) ≡ true) where
  fit : (s : ℕ) → let r = record_at (columns rs) s in (r.kind ≤ 255) × (r.level ≤ 255) × (r.value ≤ 4294967295)
  fit s =
      let ks = every (λ k. leb k 255) (columns rs).kinds in
      let ls = every (λ l. leb l 255) (columns rs).levels in
      let vs = every (λ v. leb v 4294967295) (columns rs).values in
      let a = (and-eq-true_iff ks (ls && vs)).0 h in
      let b = (and-eq-true_iff ls vs).0 a.1 in
      (at_most 255 (columns rs).kinds a.0 s, at_most 255 (columns rs).levels b.0 s, at_most 4294967295 (columns rs).values b.1 s)

  word_at : (s : ℕ) → get_or (words_in rs) s 0 ≡ word_in (record_at (columns rs) s)
  word_at s = sym (word_read rs s) ∙ ap word_in (read rs s)

  kind_in : (s : ℕ) → word_kind (get_or (words_in rs) s 0) ≡ (record_at (columns rs) s).kind
  kind_in s = ap word_kind (word_at s) ∙ word_kind_lem _ _ _ (fit s).1 (fit s).2

  pub fit_clear : Clear (words_in rs)
  fit_clear s = subst (λ (k : ℕ). k ≤ 255) (sym (kind_in s)) (fit s).0

  column_words : (ns ms : List ℕ) → length ns ≡ length (words_in rs) → length ms ≡ length rs → ((s : ℕ) → get_or ns s 0 ≡ get_or ms s 0) → ns ≡ ms
  column_words ns ms i j each = ext_get_or 0 ns ms (i ∙ length-map rs word_in ∙ sym j) (λ s _. each s)

  pub numbers : word_rows (words_in rs) ≡ columns rs
  numbers =
      let ws = words_in rs in
      let k = column_words (word_rows ws).kinds (columns rs).kinds (kinds_long ws) (length-map rs (λ (r : RowRecord). r.kind)) (λ s. kind_at ws s ∙ kind_in s) in
      let l = column_words (word_rows ws).levels (columns rs).levels (levels_long ws) (length-map rs (λ (r : RowRecord). r.level))
      (λ s. level_at ws s ∙ ap word_level (word_at s) ∙ word_level_lem _ _ _ (fit s).1 (fit s).2) in
      let v = column_words (word_rows ws).values (columns rs).values (values_long ws) (length-map rs (λ (r : RowRecord). r.value))
      (λ s. value_at ws s ∙ ap word_value (word_at s) ∙ word_value_lem _ _ _ (fit s).2) in
      ap (λ (x : List ℕ). rows_of x (word_rows ws).levels (word_rows ws).values) k ∙ ap (λ (x : List ℕ). rows_of (columns rs).kinds x (word_rows ws).values) l ∙ ap (rows_of (columns rs).kinds (columns rs).levels) v

-- ---- one row

pub rows_alike : (rs : List RowRecord) → rows_fit (columns rs) ≡ true → RowsAlike rs
unfolding resolution_at
rows_alike rs h =
    record {
      numbers = numbers rs h;
      read = λ s. rw (numbers rs h);
      replace = λ s x i j. ap word_rows (map-set word_in rs s (record_of x)) ∙ replaced_in (words_in rs) s x i j;
      spread = spread_words rs;
      gather = λ ws i k. (gather_zero (length rs) ws (omega (arith, i)) k, gather_words rs ws i k);
      rest = λ ws s i k r. let e = fifteen (length rs) ws s i k r in (e, rest_left rs ws e);
    }
