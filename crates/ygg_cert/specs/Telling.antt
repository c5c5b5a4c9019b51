-- What a reader of certificates says of the bytes so far, and of all of them.
use Rattle.std.specs.Prelude.{◌≡◌, ℕ, List}
use Rattle.ygg_base.specs.declared.failure.Refusal.{Refusal}
use Rattle.ygg_cert.specs.declared.phase.Phase.{Phase}
use Rattle.ygg_cert.specs.declared.phase.Phase.TheVariants as phase
use Rattle.ygg_cert.specs.declared.verdict.CertEnd.{CertEnd}
use Rattle.ygg_cert.specs.declared.verdict.CertEnd.TheVariants as cert
use Rattle.ygg_cert.specs.declared.verdict.Fed.{Fed}
use Rattle.ygg_cert.specs.declared.verdict.Fed.TheVariants as fed
use Rattle.ygg_cert.specs.Judging.{wrong_after, short_after}

-- what is said in a phase
abbrev pub fed_of : Phase → Fed
fed_of (phase.Bad number) = fed.Over
fed_of phase.Wrong = fed.Over
fed_of phase.GivenUp = fed.Memory
fed_of _ = fed.More

-- the text is refused so, out of memory aside
abbrev pub IsRefusal : Refusal → CertEnd → Type 0
IsRefusal wanted (cert.Refused refusal) = refusal ≡ wanted
IsRefusal wanted cert.Memory = Unit {0}
IsRefusal wanted _ = ⊥

-- all of so many goals are checked, out of memory aside
abbrev pub IsChecked : ℕ → CertEnd → Type 0
IsChecked passed (cert.Checked count) = count ≡ passed
IsChecked passed cert.Memory = Unit {0}
IsChecked passed _ = ⊥

-- what is said of a text that ends in a phase, in the log of this name, after so many goals and lines, and bytes of the line after them
abbrev pub Tells : Phase → List ℕ → ℕ → ℕ → ℕ → CertEnd → Type 0
Tells phase.End name passed lines bytes end = IsChecked passed end
Tells (phase.Bad number) name passed lines bytes end = end ≡ cert.Bad name number
Tells phase.Wrong name passed lines bytes end = IsRefusal (wrong_after lines) end
Tells phase.GivenUp name passed lines bytes end = end ≡ cert.Memory
Tells _ name passed lines bytes end = IsRefusal (short_after lines bytes) end
