-- What a refusal says of the tokens.
use Rattle.std.proofs.Common.{◌≡◌, ℕ, [], ◌∷◌, sym, ◌∙◌}
use Rattle.ygg_base.specs.declared.failure.Refusal.{Refusal}
use Rattle.ygg_base.specs.declared.reason.Reason.TheVariants.{Syntax}
use Rattle.ygg_base.specs.Reason.{refusal_at}
use Rattle.ygg_base.specs.declared.tokens.Tokens.{Tokens}
use Rattle.ygg_syntax.specs.Pending.{file, outcome, reads, stops}
use Rattle.ygg_read.proofs.LayerClaims.{file_complete}
use Rattle.ygg_read.specs.Refused.{IsRefusal, place_with}

-- where reading stops nothing derives
pub refusal_of : (tokens : Tokens) (left : ℕ) (refusal : Refusal) → outcome (file ∷ []) tokens.items ≡ stops left →
    refusal ≡ refusal_at Syntax (place_with tokens left).line (place_with tokens left).column → IsRefusal tokens refusal
refusal_of tokens left refusal stopped at = record {
  nothing = λ tree d. (let h : reads ≡ stops left = sym (file_complete tokens.items tree d) ∙ stopped in cc);
  left = left;
  stopped = stopped;
  at = at;
}
