-- A line is read in one way only.
use Rattle.std.proofs.Common.{◌≡◌, ℕ, ◌+◌, ◌*◌, cond, eqb, List, [], ◌∷◌, get_or, IfSome, Some, None, decimal, Option, sym, refl, ap, ◌∙◌, subst, ap₂, arith, MatchOption}
use Rattle.std.specs.List.{AllByRecursion}
use Rattle.operations.specs.declared.Binary.TheVariants.{Add, Sub, Mul, Div}
use Rattle.operations.specs.declared.Unary.TheVariants.{Floor, Abs, Sqrt}
use Rattle.grammar.specs.declared.instruction.Mnemonic.{Mnemonic}
use Rattle.grammar.specs.declared.instruction.Mnemonic.TheVariants as mnemonic
use Rattle.grammar.specs.declared.instruction.Instruction.{Instruction}
use Rattle.grammar.specs.declared.token.Token.{Token}
use Rattle.grammar.specs.Tokens.{Tok, name, comma, colon, Next, Ends, NoToken, Spelled, seen, Lexes}
use Rattle.grammar.specs.Grammar.{Opd, reg, num, lab, InRange, token, tailed, listed}
use Rattle.grammar.specs.Forms.{spelling, Ins, binary, unary, cmov, bltz, setx, loop, done, nop, mnemonic_of, operands_of, Formed, FormedBy, Written, CodeAt}
use Rattle.grammar.specs.Lines.{code_tokens, Says}
use Rattle.grammar.proofs.Fronts.{next_one, next_or_end, spelled_one}
use Rattle.grammar.proofs.Lists.{read_next, read_end}
use Rattle.grammar.proofs.Numbers.{same_number}

-- the bytes of a name as one number
abbrev key : List ℕ → ℕ
key [] = 0
key (b ∷ bs) = b + 256 * key bs

-- the instruction of such a number
abbrev unkey : ℕ → Mnemonic
unkey n =
    cond (eqb n 6579297) (mnemonic.Binary Add)
    (cond (eqb n 6452595) (mnemonic.Binary Sub)
    (cond (eqb n 7107949) (mnemonic.Binary Mul)
    (cond (eqb n 7760228) (mnemonic.Binary Div)
    (cond (eqb n 491495844966) (mnemonic.Unary Floor)
    (cond (eqb n 7561825) (mnemonic.Unary Abs)
    (cond (eqb n 1953657203) (mnemonic.Unary Sqrt)
    (cond (eqb n 1987013987) mnemonic.Cmov
    (cond (eqb n 2054450274) mnemonic.Bltz
    (cond (eqb n 2020894067) mnemonic.Setx
    (cond (eqb n 1886351212) mnemonic.Loop
    (cond (eqb n 1701736292) mnemonic.Done
    (mnemonic.Nop))))))))))))

unkey_key : (m : Mnemonic) → m ≡ unkey (key (spelling m))
unkey_key (mnemonic.Binary Add) = refl
unkey_key (mnemonic.Binary Sub) = refl
unkey_key (mnemonic.Binary Mul) = refl
unkey_key (mnemonic.Binary Div) = refl
unkey_key (mnemonic.Unary Floor) = refl
unkey_key (mnemonic.Unary Abs) = refl
unkey_key (mnemonic.Unary Sqrt) = refl
unkey_key mnemonic.Cmov = refl
unkey_key mnemonic.Bltz = refl
unkey_key mnemonic.Setx = refl
unkey_key mnemonic.Loop = refl
unkey_key mnemonic.Done = refl
unkey_key mnemonic.Nop = refl

-- no two instructions have one name
pub spelling_one : (m n : Mnemonic) → spelling m ≡ spelling n → m ≡ n
spelling_one m n e = unkey_key m ∙ ap (λ s. unkey (key s)) e ∙ sym (unkey_key n)

-- operands with one token are one
pub token_one : (o p : Opd) → InRange o → InRange p → token o ≡ token p → o ≡ p
token_one (reg v) (reg w) q r e = let d : decimal v ≡ decimal w = cc in ap reg (same_number v w (omega arith) (omega arith) d)
token_one (reg v) (num w) q r e = cc
token_one (reg v) (lab n) q r e = cc
token_one (num v) (reg w) q r e = cc
token_one (num v) (num w) q r e = let d : decimal v ≡ decimal w = cc in ap num (same_number v w q r d)
token_one (num v) (lab n) q r e = cc
token_one (lab m) (reg w) q r e = cc
token_one (lab m) (num w) q r e = cc
token_one (lab m) (lab n) q r e = cc

pub tailed_one : (os ps : List Opd) → AllByRecursion InRange os → AllByRecursion InRange ps → tailed os ≡ tailed ps → os ≡ ps
tailed_one [] [] q r e = refl
tailed_one [] (p ∷ ps) q r e = cc
tailed_one (o ∷ os) [] q r e = cc
tailed_one (o ∷ os) (p ∷ ps) q r e =
    let t : token o ≡ token p = cc in
    let more : tailed os ≡ tailed ps = cc in
    let head = token_one o p q.0 r.0 t in
    let tail = tailed_one os ps q.1 r.1 more in
    cc

pub listed_one : (os ps : List Opd) → AllByRecursion InRange os → AllByRecursion InRange ps → listed os ≡ listed ps → os ≡ ps
listed_one [] [] q r e = refl
listed_one [] (p ∷ ps) q r e = cc
listed_one (o ∷ os) [] q r e = cc
listed_one (o ∷ os) (p ∷ ps) q r e = tailed_one (o ∷ os) (p ∷ ps) q r (ap (λ ts. comma ∷ ts) e)

-- an instruction has one name and one list of operands, and these are of no other
pub code_read : (n rest : List ℕ) (m : Mnemonic) (os : List Opd) (r : Option Instruction) → n ≡ spelling m → AllByRecursion InRange os → Spelled rest (listed os) → FormedBy m os r → CodeAt n rest r
code_read n rest m os None named ranges s f = λ i w.
    f i (spelling_one _ _ (sym w.named ∙ named)) (listed_one _ _ w.formed.ranges ranges (spelled_one rest _ _ w.operands s)) w.formed.kinds
code_read n rest m os (Some x) named ranges s f = record {
  formed = record { kinds = f.2; ranges = subst (AllByRecursion InRange) (sym f.1) ranges };
  named = named ∙ ap spelling (sym f.0);
  operands = subst (λ l. Spelled rest (listed l)) (sym f.1) s;
}

-- a colon is behind a label's name, and behind no instruction's
second_colon : (bs mid rest n : List ℕ) (code : Option Ins) → Next bs (name n) mid → Next mid colon rest → Spelled bs (code_tokens code) → ⊥
second_colon bs mid rest n None p q s = next_or_end bs (name n) mid p s
second_colon bs mid rest n (Some i) p q s = behind (operands_of i) (subst (λ l. Spelled l (listed (operands_of i))) (next_one bs _ (name n) s.0 mid s.1 p).1 s.2)
  where
    apart : (o : Opd) → token o ≡ colon → ⊥
    apart (reg v) e = cc
    apart (num v) e = cc
    apart (lab m) e = cc

    behind : (os : List Opd) → Spelled mid (listed os) → ⊥
    behind [] t = next_or_end mid colon rest q t
    behind (o ∷ os) t = apart o (next_one mid (token o) colon t.0 rest t.1 q).0

module _ (bs : List ℕ) where
  -- a line with a label, from what is behind the colon
  pub labelled : (n mid rest : List ℕ) → Next bs (name n) mid → Next mid colon rest → (code : Option Ins) → Says rest None code → Says bs (Some n) code
  labelled n mid rest p q code s = record { formed = s.formed; spelled = (mid, p, (rest, q, s.spelled)) }

  pub labelled_none : (n mid rest : List ℕ) → Next bs (name n) mid → Next mid colon rest → ((code : Option Ins) → Says rest None code → ⊥) → (label : Option (List ℕ)) (code : Option Ins) → Says bs label code → ⊥
  labelled_none n mid rest p q h None code s = second_colon bs mid rest n code p q s.spelled
  labelled_none n mid rest p q h (Some m) code s =
      let t = s.spelled in
      let u = subst (λ l. Spelled l (colon ∷ code_tokens code)) (next_one bs _ _ t.0 mid t.1 p).1 t.2 in
      h code (record { formed = s.formed; spelled = subst (λ l. Spelled l (code_tokens code)) (next_one mid _ _ u.0 rest u.1 q).1 u.2 })

  pub unlabelled_none : ((n mid rest : List ℕ) → Next bs (name n) mid → Next mid colon rest → ⊥) → ((code : Option Ins) → Says bs None code → ⊥) → (label : Option (List ℕ)) (code : Option Ins) → Says bs label code → ⊥
  unlabelled_none p h None code s = h code s
  unlabelled_none p h (Some n) code s = let t = s.spelled in p n t.0 t.2.0 t.1 t.2.1

-- no name with a colon is at the front
module _ (bs : List ℕ) where
  pub unlabelled : NoToken bs → (n mid rest : List ℕ) → Next bs (name n) mid → Next mid colon rest → ⊥
  unlabelled h n mid rest p q = h.none (name n) mid p

  module _ (t : Token) (r : List ℕ) (first : Lexes bs t r) where
    pub unlabelled_first : ((n : List ℕ) → seen t ≡ Some (name n) → ⊥) → (n mid rest : List ℕ) → Next bs (name n) mid → Next mid colon rest → ⊥
    unlabelled_first h n mid rest p q = h n (read_next bs (seen t) r first (name n) mid p).0

    pub unlabelled_end : NoToken r → (n mid rest : List ℕ) → Next bs (name n) mid → Next mid colon rest → ⊥
    unlabelled_end h n mid rest p q = h.none colon rest (subst (λ l. Next l colon rest) (read_next bs (seen t) r first (name n) mid p).1 q)

    pub unlabelled_second : (u : Token) (s : List ℕ) → Lexes r u s → (seen u ≡ Some colon → ⊥) → (n mid rest : List ℕ) → Next bs (name n) mid → Next mid colon rest → ⊥
    unlabelled_second u s second h n mid rest p q =
        h (read_next r (seen u) s second colon rest (subst (λ l. Next l colon rest) (read_next bs (seen t) r first (name n) mid p).1 q)).0

module _ (bs : List ℕ) where
  pub code_none : NoToken bs → (code : Option Ins) → Says bs None code → ⊥
  code_none h None s = h.goes s.spelled
  code_none h (Some i) s = h.none _ s.spelled.0 s.spelled.1

  -- the first token is no name, and not the end
  pub code_other : (o : Option Tok) (rest : List ℕ) → MatchOption o (Ends bs) (λ v. Next bs v rest) → (o ≡ None → ⊥) → ((n : List ℕ) → o ≡ Some (name n) → ⊥) → (code : Option Ins) → Says bs None code → ⊥
  code_other o rest h p q None s = p (read_end bs o rest h s.spelled)
  code_other o rest h p q (Some i) s = q _ (read_next bs o rest h _ s.spelled.0 s.spelled.1).0

  -- the first token is a name that begins no instruction
  pub code_unnamed : (n rest : List ℕ) → Next bs (name n) rest → ((i : Ins) → Written n rest i → ⊥) → (code : Option Ins) → Says bs None code → ⊥
  code_unnamed n rest p h None s = next_or_end bs (name n) rest p s.spelled
  code_unnamed n rest p h (Some i) s =
      let t = s.spelled in
      let same = next_one bs (name n) _ rest t.0 p t.1 in
      let named : n ≡ spelling (mnemonic_of i) = let e = same.0 in cc in
      h i (record { formed = s.formed; named = named; operands = subst (λ l. Spelled l (listed (operands_of i))) (sym same.1) t.2 })

-- an instruction from its name and its operands
abbrev made_of : Mnemonic → List Opd → Ins
made_of (mnemonic.Binary op) os = binary op (get_or os 0 (reg 0)) (get_or os 1 (reg 0)) (get_or os 2 (reg 0))
made_of (mnemonic.Unary op) os = unary op (get_or os 0 (reg 0)) (get_or os 1 (reg 0))
made_of mnemonic.Cmov os = cmov (get_or os 0 (reg 0)) (get_or os 1 (reg 0)) (get_or os 2 (reg 0))
made_of mnemonic.Bltz os = bltz (get_or os 0 (reg 0)) (get_or os 1 (reg 0))
made_of mnemonic.Setx os = setx (get_or os 0 (reg 0))
made_of mnemonic.Loop os = loop (get_or os 0 (reg 0))
made_of mnemonic.Done os = done
made_of mnemonic.Nop os = nop

made_back : (i : Ins) → i ≡ made_of (mnemonic_of i) (operands_of i)
made_back (binary op d a b) = refl
made_back (unary op d a) = refl
made_back (cmov d a b) = refl
made_back (bltz a t) = refl
made_back (setx v) = refl
made_back (loop t) = refl
made_back done = refl
made_back nop = refl

ins_one : (i j : Ins) → mnemonic_of i ≡ mnemonic_of j → operands_of i ≡ operands_of j → i ≡ j
ins_one i j e f = made_back i ∙ ap₂ made_of e f ∙ sym (made_back j)

code_one : (c d : Option Ins) → IfSome c Formed → IfSome d Formed → code_tokens c ≡ code_tokens d → c ≡ d
code_one None None p q e = refl
code_one None (Some j) p q e = cc
code_one (Some i) None p q e = cc
code_one (Some i) (Some j) p q e =
    let n : spelling (mnemonic_of i) ≡ spelling (mnemonic_of j) = cc in
    let o : listed (operands_of i) ≡ listed (operands_of j) = cc in
    ap Some (ins_one i j (spelling_one _ _ n) (listed_one _ _ p.ranges q.ranges o))

-- a line has one reading
pub says_one : (bs : List ℕ) (l k : Option (List ℕ)) (c d : Option Ins) → Says bs l c → Says bs k d → (l ≡ k) × (c ≡ d)
says_one bs None None c d p q = (refl, code_one c d p.formed q.formed (spelled_one bs _ _ p.spelled q.spelled))
says_one bs None (Some n) c d p q = let t = q.spelled in absurd (second_colon bs t.0 t.2.0 n c t.1 t.2.1 p.spelled)
says_one bs (Some n) None c d p q = let t = p.spelled in absurd (second_colon bs t.0 t.2.0 n d t.1 t.2.1 q.spelled)
says_one bs (Some n) (Some m) c d p q =
    let same : name n ∷ colon ∷ code_tokens c ≡ name m ∷ colon ∷ code_tokens d = spelled_one bs _ _ p.spelled q.spelled in
    let names : n ≡ m = cc in
    let codes : code_tokens c ≡ code_tokens d = cc in
    (ap Some names, code_one c d p.formed q.formed codes)
