-- The operands of a line, token by token.
use Rattle.std.proofs.Common.{◌≡◌, ℕ, suc, ◌≤◌, List, [], ◌∷◌, length, Some, None, Option, sym, refl, ap, subst, arith, Bor, MatchOption}
use Rattle.std.specs.List.{AllByRecursion}
use Rattle.grammar.specs.declared.operand.Operand.{Operand}
use Rattle.grammar.specs.declared.token.Rest.{Rest}
use Rattle.grammar.specs.declared.token.Token.{Token}
use Rattle.grammar.specs.declared.token.Token.TheVariants.{Name, Number, Register, Comma, Colon, End}
use Rattle.grammar.specs.Tokens.{Tok, name, number, register, comma, colon, Next, Ends, Spelled, seen, Lexes, NoToken}
use Rattle.grammar.specs.Grammar.{Opd, opd, InRange, token, tailed, listed, OperandOf, MoreOf}
use Rattle.grammar.proofs.Fronts.{next_one, next_or_end}

module _ (bs : List ℕ) where
  -- a token that is read is the only one
  pub read_next : (o : Option Tok) (rest : List ℕ) → MatchOption o (Ends bs) (λ v. Next bs v rest) → (u : Tok) (r : List ℕ) → Next bs u r → (o ≡ Some u) × (r ≡ rest)
  read_next None rest h u r n = absurd (next_or_end bs u r n h)
  read_next (Some v) rest h u r n = let p = next_one bs v u rest r h n in (ap Some p.0, sym p.1)

  pub read_end : (o : Option Tok) (rest : List ℕ) → MatchOption o (Ends bs) (λ v. Next bs v rest) → Ends bs → o ≡ None
  read_end None rest h e = refl
  read_end (Some v) rest h e = absurd (next_or_end bs v rest h e)

-- what follows the first operand
pub head_step : (bs rest : List ℕ) (t : Tok) (os : List Opd) → Next bs t rest → Spelled bs (listed os) → (o : Opd) × ((ps : List Opd) × (os ≡ o ∷ ps) × Spelled rest (tailed ps))
head_step bs rest t [] n s = absurd (next_or_end bs t rest n s)
head_step bs rest t (o ∷ os) n s = (o, (os, refl, subst (λ r. Spelled r (tailed os)) (next_one bs (token o) t s.0 rest s.1 n).1 s.2))

-- what follows a comma and an operand
pub tail_step : (bs mid rest : List ℕ) (t : Tok) (os : List Opd) → Next bs comma mid → Next mid t rest → Spelled bs (tailed os) → (o : Opd) × ((ps : List Opd) × (os ≡ o ∷ ps) × Spelled rest (tailed ps))
tail_step bs mid rest t [] n m s = absurd (next_or_end bs comma mid n s)
tail_step bs mid rest t (o ∷ os) n m s =
    let at = subst (λ r. Spelled r (token o ∷ tailed os)) (next_one bs comma comma s.0 mid s.1 n).1 s.2 in
    head_step mid rest t (o ∷ os) m at

module _ (bs : List ℕ) where
  pub more_none : NoToken bs → MoreOf bs None
  more_none h [] r s = h.goes s
  more_none h (o ∷ os) r s = h.none comma s.0 s.1

  pub more_cut : (rest : List ℕ) → Next bs comma rest → NoToken rest → MoreOf bs None
  more_cut rest n h [] r s = next_or_end bs comma rest n s
  more_cut rest n h (o ∷ os) r s = h.none (token o) s.2.0 (subst (λ l. Next l (token o) s.2.0) (next_one bs comma comma s.0 rest s.1 n).1 s.2.1)

  pub more_odd : (mid rest : List ℕ) (t : Token) → Next bs comma mid → Lexes mid t rest → OperandOf t None → MoreOf bs None
  more_odd mid rest t n l h [] r s = next_or_end bs comma mid n s
  more_odd mid rest t n l h (o ∷ os) r s =
      let at = subst (λ l. Next l (token o) s.2.0) (next_one bs comma comma s.0 mid s.1 n).1 s.2.1 in
      h o r.0 (read_next mid (seen t) rest l (token o) s.2.0 at).0

  pub more_other : (t : Token) (rest : List ℕ) → Lexes bs t rest → (seen t ≡ Some comma → ⊥) → (seen t ≡ None → ⊥) → MoreOf bs None
  more_other t rest l p q [] r s = q (read_end bs (seen t) rest l s)
  more_other t rest l p q (o ∷ os) r s = p (read_next bs (seen t) rest l comma s.0 s.1).0

-- not spelled: at most n operands, each with its comma
abbrev pub Barred : List ℕ → ℕ → Type 0
Barred bs n = (os : List Opd) → length os ≤ n → AllByRecursion InRange os → Spelled bs (tailed os) → ⊥

-- not spelled: at most three operands
abbrev pub Shut : List ℕ → Type 0
Shut bs = (os : List Opd) → length os ≤ 3 → AllByRecursion InRange os → Spelled bs (listed os) → ⊥

pub barred_none : (bs : List ℕ) (n : ℕ) → MoreOf bs None → Barred bs n
barred_none bs n h os short r s = h os r s

pub barred_past : (bs mid : List ℕ) → Next bs comma mid → Barred bs 0
barred_past bs mid n [] short r s = next_or_end bs comma mid n s
barred_past bs mid n (o ∷ os) short r s = omega arith

module _ (bs rest : List ℕ) (t : Tok) where
  pub barred_more : (mid : List ℕ) (n m : ℕ) → Next bs comma mid → Next mid t rest → m ≡ suc n → Barred rest n → Barred bs m
  barred_more mid n m p q e h os short r s =
      let (o, more) = tail_step bs mid rest t os p q s in
      let cut = more.1 in
      let long = ap length cut in
      h more.0 (omega arith) (subst (AllByRecursion InRange) cut r).1 more.2

  pub shut_more : Next bs t rest → Barred rest 2 → Shut bs
  shut_more n h os short r s =
      let (o, more) = head_step bs rest t os n s in
      let cut = more.1 in
      let long = ap length cut in
      h more.0 (omega arith) (subst (AllByRecursion InRange) cut r).1 more.2

pub shut_none : (bs : List ℕ) → NoToken bs → Shut bs
shut_none bs h [] short r s = h.goes s
shut_none bs h (o ∷ os) short r s = h.none (token o) s.0 s.1

pub shut_odd : (bs : List ℕ) (t : Token) (rest : List ℕ) → Lexes bs t rest → (seen t ≡ None → ⊥) → OperandOf t None → Shut bs
shut_odd bs t rest l q h [] short r s = q (read_end bs (seen t) rest l s)
shut_odd bs t rest l q h (o ∷ os) short r s = h o r.0 (read_next bs (seen t) rest l (token o) s.0 s.1).0

-- the token is not of the case that says this
abbrev pub Unlike : Token → Option Tok → Type 0
Unlike t None = (x : ℕ) → t ≡ End x → ⊥
Unlike t (Some (name n)) = (a : Bor (List ℕ)) (x : ℕ) → t ≡ Name a x → ⊥
Unlike t (Some (number n)) = (a : Bor (List ℕ)) (x : ℕ) → t ≡ Number a x → ⊥
Unlike t (Some (register n)) = (a : Bor (List ℕ)) (x : ℕ) → t ≡ Register a x → ⊥
Unlike t (Some comma) = (x : ℕ) → t ≡ Comma x → ⊥
Unlike t (Some colon) = (x : ℕ) → t ≡ Colon x → ⊥

alike : (t : Token) → Unlike t (seen t) → ⊥
alike (Name a x) p = p a x refl
alike (Number a x) p = p a x refl
alike (Register a x) p = p a x refl
alike (Comma x) p = p x refl
alike (Colon x) p = p x refl
alike (End x) p = p x refl

-- and so says something else
pub not_seen : (t : Token) (o : Option Tok) → Unlike t o → seen t ≡ o → ⊥
not_seen t o p e = alike t (subst (Unlike t) (sym e) p)

-- a token that is read, by what it says
pub lexed : (bs : List ℕ) (t : Token) (rest : List ℕ) (u : Tok) → Lexes bs t rest → seen t ≡ Some u → Next bs u rest
lexed bs t rest u l e = subst (λ o. MatchOption o (Ends bs) (λ v. Next bs v rest)) e l

-- what one call said, at what it is matched with
pub more_at : (bs : List ℕ) {o p : Option (Operand × Rest)} → o ≡ p → MoreOf bs (Some o) → MoreOf bs (Some p)
more_at bs e m = subst (λ q. MoreOf bs (Some q)) e m

module _ {bs rest : List ℕ} {t : Tok} (first : Next bs t rest) where
  pub shut_one : MoreOf rest None → Shut bs
  shut_one h = shut_more bs rest t first (barred_none rest 2 h)

  module _ (x : Operand × Rest) (second : MoreOf rest (Some (Some x))) where
    shut_behind : Barred x.1.bytes.now 1 → Shut bs
    shut_behind h = shut_more bs rest t first (barred_more rest x.1.bytes.now _ second.1.0 1 2 second.1.1 second.1.2 refl h)

    pub shut_two : MoreOf x.1.bytes.now None → Shut bs
    shut_two h = shut_behind (barred_none x.1.bytes.now 1 h)

    module _ (y : Operand × Rest) (third : MoreOf x.1.bytes.now (Some (Some y))) where
      shut_last : Barred y.1.bytes.now 0 → Shut bs
      shut_last h = shut_behind (barred_more x.1.bytes.now y.1.bytes.now _ third.1.0 0 1 third.1.1 third.1.2 refl h)

      pub shut_three : MoreOf y.1.bytes.now None → Shut bs
      shut_three h = shut_last (barred_none y.1.bytes.now 0 h)

      pub shut_four : (z : Operand × Rest) → MoreOf y.1.bytes.now (Some (Some z)) → Shut bs
      shut_four z h = shut_last (barred_past y.1.bytes.now h.1.0 h.1.1)

      pub three : MoreOf y.1.bytes.now (Some None) → Spelled bs (t ∷ tailed (opd x.0 ∷ opd y.0 ∷ []))
      three h = (rest, first, (second.1.0, second.1.1, (x.1.bytes.now, second.1.2, (third.1.0, third.1.1, (y.1.bytes.now, third.1.2, h)))))
