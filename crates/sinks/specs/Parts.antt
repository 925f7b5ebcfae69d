-- The picture in a memory: its count, its colours, and what a replaced part makes of it.
use Rattle.std.specs.Prelude.{◌≡◌, ℕ, ◌+◌, ◌-◌, ◌*◌, ◌/◌, ◌<◌, ◌≤◌, min, true, List, [], ◌++◌, map, length, take, drop, Ok, Option, Result, ◌≢◌, nat_lt, slice_get, slice_index, slice_index_or, refl}
use Rattle.std.proofs.Math.Path.{sym, ap}
use Rattle.std.proofs.Common.{◌∙◌, arith, rules}
use Rattle.std.proofs.Math.Logic.{inl, inr}
use borrow.Rule.Slice.PartMut.{put_mid}
use Rattle.std.proofs.lemmas.Nat.{div-add-mod', mul-le}
use Rattle.std.proofs.lemmas.List.FromFn.{length-map-range_with_len, get_or-map-range_with_len}
use Rattle.std.proofs.ByRecursion.{All-from_get_or}
use Rattle.std.proofs.lemmas.List.{places, same_lists, ext_get_or, length-take, length-drop, length-set, get_or-set_same, get_or-set_other, take_at, drop_at, drop-drop}
use Rattle.std.specs.Option.{ok_or}
use Rattle.std.proofs.lemmas.Option.{slice_get-get_or, slice_get_past}
use Rattle.std.proofs.lemmas.Bool.{cases_eq, cases_lt, cases_order, cond-true, lt-ltb, le-ltb}
use Rattle.sinks.specs.declared.fault.Fault.{Fault}
use Rattle.sinks.specs.declared.fault.Fault.TheVariants.{Lane}
use Rattle.sinks.specs.Pictures.{most_blocks, Good, GoodBlock, Put, block_count, colour_of, placed, colour_at, get_answer}
use Rattle.sinks.specs.Memories.{count_in, part_at, picture_in, replaced}

-- a part ends where the next one begins, and the last one in the memory
ends_before : (w a b : ℕ) → a < b → w * a + w ≤ w * b
ends_before w a b h = omega (arith, mul-le w (a + 1) w b (omega arith) (omega arith))

inside : {A : Type 0} (w place : ℕ) (memory : List A) → place < count_in w memory → w * place + w ≤ length memory
inside w place memory h = omega (arith, ends_before w place (length memory / w) (omega arith), div-add-mod' (length memory) w)

module _ {A : Type 0} (w : ℕ) (read : List A → List ℕ) (memory : List A) where
  pub block_count-picture_in : block_count (picture_in w read memory) ≡ count_in w memory
  unfolding block_count picture_in
  block_count-picture_in = length-map-range_with_len _ 0 (count_in w memory)

  block_in : (place : ℕ) → place < count_in w memory → slice_index_or (picture_in w read memory).blocks place [] ≡ read (part_at w place memory)
  unfolding picture_in
  block_in place h = get_or-map-range_with_len _ 0 (count_in w memory) place place [] h (omega arith)

  colour_in : (place lane : ℕ) → place < count_in w memory → colour_at (picture_in w read memory) place lane ≡ slice_index (read (part_at w place memory)) lane
  unfolding colour_at
  colour_in place lane h = ap (λ b. slice_index b lane) (block_in place h)

  length_part : (place : ℕ) → place < count_in w memory → length (part_at w place memory) ≡ w
  length_part place h = let i = inside w place memory h in simp (length-take, length-drop) (omega arith)

  pub good_in : ((part : List A) → length part ≡ w → GoodBlock (read part)) → Good (picture_in w read memory)
  unfolding block_count
  good_in good =
      record {
        few = rw block_count-picture_in (omega arith);
        colours = All-from_get_or GoodBlock (picture_in w read memory).blocks [] (λ k l. let h : k < count_in w memory = omega (arith, block_count-picture_in) in rw (block_in k h) (good (part_at w k memory) (length_part k h)));
      }

module _ {A : Type 0} (w place : ℕ) (part memory : List A) (h : place < count_in w memory) (l : length part ≡ w) where
  length_replaced : length (replaced w place part memory) ≡ length memory
  unfolding replaced
  length_replaced = let i = inside w place memory h in search (rules, places)

  here : part_at w place (replaced w place part memory) ≡ part
  unfolding replaced
  here =
      let i = inside w place memory h in
      let e : length (take (w * place) memory) ≡ w * place = simp length-take (omega arith) in
      rw (drop_at (take (w * place) memory) (part ++ drop (w * place + w) memory) (w * place) e) (take_at part _ w l)

  elsewhere : (k : ℕ) → k < count_in w memory → (k ≢ place) → part_at w k (replaced w place part memory) ≡ part_at w k memory
  unfolding replaced
  elsewhere k g n =
      let i = inside w place memory h in
      let j = inside w k memory g in
      elim (cases_order k place) [
        | inl e ↦ absurd (n e)
        | inr (inl b) ↦ let o = ends_before w k place b in same_lists _ _ (search (rules, places)) (λ i d u. grind (arith, places))
        | inr (inr a) ↦ let o = ends_before w place k a in same_lists _ _ (search (rules, places)) (λ i d u. grind (arith, places))
      ]

  module _ (read : List A → List ℕ) (values : List ℕ) (e : read part ≡ map colour_of values) where
    block_replaced : (k : ℕ) → k < count_in w memory → read (part_at w k (replaced w place part memory)) ≡ slice_index_or (placed (picture_in w read memory) place values).blocks k []
    unfolding placed block_count
    block_replaced k h' =
        let was : List (List ℕ) = (picture_in w read memory).blocks in
        let inside' : place < length was = omega (arith, block_count-picture_in w read memory) in
        elim (cases_eq k place) [
          | inl q ↦ rw q (ap read here ∙ (e ∙ sym (get_or-set_same was place (map colour_of values) [] inside')))
          | inr q ↦ ap read (elsewhere k h' q) ∙ (sym (block_in w read memory k h') ∙ sym (get_or-set_other was place k (map colour_of values) [] q))
        ]

    pub picture_replaced : picture_in w read (replaced w place part memory) ≡ placed (picture_in w read memory) place values
    unfolding placed block_count
    picture_replaced =
        let n : count_in w (replaced w place part memory) ≡ count_in w memory = ap (λ m. min (m / w) most_blocks) length_replaced in
        let is : length (picture_in w read (replaced w place part memory)).blocks ≡ count_in w memory = block_count-picture_in w read (replaced w place part memory) ∙ n in
        let was : length (placed (picture_in w read memory) place values).blocks ≡ count_in w memory = length-set (picture_in w read memory).blocks place (map colour_of values) ∙ block_count-picture_in w read memory in
        ap (λ (bs : List (List ℕ)). record { blocks = bs }) (ext_get_or [] _ _ (is ∙ sym was) (λ k u. block_in w read (replaced w place part memory) k (omega arith) ∙ block_replaced k (omega arith)))

-- what a put does whose place is there
pub put_done : {A : Type 0} (w place : ℕ) (part memory is : List A) (read : List A → List ℕ) (values : List ℕ) → place < count_in w memory → length part ≡ w → read part ≡ map colour_of values → is ≡ replaced w place part memory → Put (picture_in w read memory) place values (Ok tt) (picture_in w read is)
put_done w place part memory is read values h l e i =
    let t : nat_lt place (block_count (picture_in w read memory)) ≡ true = rw (block_count-picture_in w read memory) (lt-ltb place (count_in w memory) h) in
    record {
      answer = sym (cond-true _ _ _ t);
      leaves = ap (picture_in w read) i ∙ (picture_replaced w place part memory h l read values e ∙ sym (cond-true _ _ _ t));
    }

-- the memory after a write to `memory[w * place..w * place + w]`
pub part_written : {A : Type 0} (w place : ℕ) (memory part is : List A) → is ≡ part → put_mid (w * place) (w * place + w - w * place) memory is ≡ replaced w place part memory
unfolding replaced
part_written w place memory part is e =
    let n : w * place + w - w * place ≡ w = omega arith in
    rw (e, n) (ap (λ rest. take (w * place) memory ++ (part ++ rest)) (drop-drop w (w * place) memory))

-- the answer of a get whose place and lane are there
pub got : {A : Type 0} (w place lane r : ℕ) (read : List A → List ℕ) (memory : List A) → place < count_in w memory → lane < 16 → r ≡ slice_index (read (part_at w place memory)) lane → Ok r ≡ get_answer (picture_in w read memory) place lane
got w place lane r read memory h l e =
    rw (block_count-picture_in w read memory, lt-ltb place (count_in w memory) h, lt-ltb lane 16 l, colour_in w read memory place lane h) (ap Ok e)

-- the answer of a get whose place is there, from what its block has at the lane
pub answered : {A : Type 0} (w place lane : ℕ) (read : List A → List ℕ) (memory part : List A) (o : Option ℕ) (r : Result ℕ Fault) → ((part : List A) → length part ≡ w → GoodBlock (read part)) → place < count_in w memory → part ≡ part_at w place memory → o ≡ slice_get (read part) lane → r ≡ ok_or o Lane → r ≡ get_answer (picture_in w read memory) place lane
answered w place lane read memory part o r good h p e i =
    let block : List ℕ = read (part_at w place memory) in
    let l : length block ≡ 16 = (good (part_at w place memory) (length_part w read memory place h)).0 in
    elim (cases_lt lane 16) [
      | inl k ↦ rw (i, e, p, slice_get-get_or block lane 0 (omega arith)) (got w place lane _ read memory h k refl)
      | inr k ↦ rw (i, e, p, slice_get_past block lane (omega arith), block_count-picture_in w read memory, lt-ltb place (count_in w memory) h, le-ltb lane 16 k)
    ]
