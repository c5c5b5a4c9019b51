-- The text that is made is one layer file without a fault, whose obligations hold.
use Rattle.std.proofs.Common.{◌≡◌, inl, inr, ℕ, ◌≤◌, List, [], ◌∷◌, Ok, Err, sym, ap, ◌∙◌, subst, arith}
use Rattle.std.specs.List.{Contains}
use Rattle.ygg_base.specs.declared.failure.Refusal.{Refusal}
use Rattle.ygg_base.specs.declared.token.Token.{Token}
use Rattle.ygg_base.specs.declared.tokens.Tokens.{Tokens}
use Rattle.ygg_base.specs.Lexing.{Lexed, tokens_of}
use Rattle.ygg_syntax.specs.declared.tree.File.{File}
use Rattle.ygg_syntax.specs.Files.{Derives}
use Rattle.ygg_yard.specs.ygg_type_rules.TypeErrors.{listed}
use Rattle.ygg_yard.specs.ygg_type_rules.declared.type_error.TypeError.{TypeError}
use Rattle.ygg_yard.specs.ygg_type_rules.Files.{IsTyped, type_errors_of}
use Rattle.ygg_accept.specs.Accepting.{RefusesTokens, RefusesLayers}
use Rattle.ygg_yard.specs.Texts.{made}
use Rattle.ygg_yard.proofs.of_ygg_print.Relexed.{relexed}
use Rattle.ygg_yard.specs.Trees.{file_made}
use Rattle.ygg_yard.specs.ReadLaws.{IsReadAt}
use Rattle.ygg_yard.proofs.Read.{is_read}
use Rattle.ygg_yard.proofs.Typed.{is_typed}
use Rattle.ygg_yard.specs.RefinesLaws.{HoldsAll}
use Rattle.ygg_yard.proofs.Holding.{all_hold}
use Rattle.ygg_yard.specs.Laws.{IsSound}

-- the tokens of a text are one list
abbrev spelled : Tokens → Lexed
spelled tokens = Ok tokens

abbrev failed : Refusal → Lexed
failed r = Err r

same_tokens : (a b : Tokens) → spelled a ≡ spelled b → a ≡ b
same_tokens a b e = cc

not_both : (r : Refusal) (tokens : Tokens) → failed r ≡ spelled tokens → ⊥
not_both r tokens e = cc

-- what is empty has nothing in it
nothing_in : (es : List TypeError) (e : TypeError) → es ≡ [] → Contains es e → ⊥
nothing_in [] e none c = absurd (omega (arith, c.1))
nothing_in (x ∷ es) e none c = absurd (cc)

-- where at most one file derives from tokens
module _ (one_file : (tokens : List Token) (f g : File) → Derives tokens f → Derives tokens g → f ≡ g) (count : ℕ) (some : 1 ≤ count) (few : count ≤ 64)
  where
    read : IsReadAt count
    read = is_read relexed count (omega (arith, few))

    abbrev file : File
    file = file_made read.at count

    typed : IsTyped file
    typed = is_typed read.at count some (omega (arith, few))

    -- the tokens of the text are those that it was read from
    these : (tokens : Tokens) → tokens_of (made count) ≡ Ok tokens → tokens ≡ read.tokens
    these tokens e = same_tokens tokens read.tokens (sym e ∙ read.spells)

    -- and the file is this one
    this_file : (tokens : Tokens) (f : File) → tokens_of (made count) ≡ Ok tokens → Derives tokens.items f → f ≡ file
    this_file tokens f e d = one_file read.tokens.items f file (subst (λ (z : Tokens). Derives z.items f) (these tokens e) d) read.derives

    no_tokens : (tokens : Tokens) (r : Refusal) → tokens_of (made count) ≡ Ok tokens → RefusesTokens tokens r → ⊥
    no_tokens tokens r e (inl refused) = refused.nothing file (subst (λ (z : Tokens). Derives z.items file) (sym (these tokens e)) read.derives)
    no_tokens tokens r e (inr wrong) =
        let same = this_file tokens wrong.file e wrong.derives in
        nothing_in (listed (type_errors_of wrong.file)) wrong.first.0 (ap (λ (f : File). listed (type_errors_of f)) same ∙ typed) wrong.first.1.in_list

    never : (r : Refusal) → RefusesLayers (made count) r → ⊥
    never r (inl bad) = not_both r read.tokens (sym bad ∙ read.spells)
    never r (inr (tokens, e, refuses)) = no_tokens tokens r e refuses

    pub is_sound : IsSound count
    is_sound = record {
      tokens = read.tokens;
      file = file;
      accepted = record {
        spells = read.spells;
        derives = read.derives;
        only = λ other d. one_file read.tokens.items other file d read.derives;
        typed = typed;
      };
      never = never;
      sound = λ tokens f is. subst (HoldsAll count) (sym (this_file tokens f is.spells is.derives)) (all_hold read.at count);
    }
