-- What the first word of a command asks for.
use Rattle.std.specs.Prelude.{ℕ, List, codes, if◌then◌else◌}
use Rattle.std.specs.Str.{bytes_eq}
use Rattle.ygg_top.specs.declared.words.Alone.{Alone}
use Rattle.ygg_top.specs.declared.words.Alone.TheVariants as alone
use Rattle.ygg_top.specs.declared.words.OnImage.{OnImage}
use Rattle.ygg_top.specs.declared.words.OnImage.TheVariants as on
use Rattle.ygg_top.specs.declared.words.One.{One}
use Rattle.ygg_top.specs.declared.words.One.TheVariants as one
use Rattle.ygg_top.specs.declared.words.Three.{Three}
use Rattle.ygg_top.specs.declared.words.Three.TheVariants as three
use Rattle.ygg_top.specs.declared.words.Two.{Two}
use Rattle.ygg_top.specs.declared.words.Two.TheVariants as two

-- what a word asks for that stands alone
abbrev pub alone_of : List ℕ → Alone
alone_of word =
    if bytes_eq word (codes "--help") then alone.Help else
    if bytes_eq word (codes "--version") then alone.Version else alone.Other

-- what a word asks for after which one word stands
abbrev pub one_of : List ℕ → One
one_of word =
    if bytes_eq word (codes "verify") then one.Verify else
    if bytes_eq word (codes "print") then one.Print else
    if bytes_eq word (codes "demo") then one.Demo else
    if bytes_eq word (codes "solve") then one.Solve else
    if bytes_eq word (codes "certify") then one.Certify else one.Other

-- what a word asks for after which two words stand
abbrev pub two_of : List ℕ → Two
two_of word =
    if bytes_eq word (codes "verify") then two.Verify else
    if bytes_eq word (codes "replay") then two.Replay else
    if bytes_eq word (codes "explain") then two.Explain else
    if bytes_eq word (codes "play") then two.Play else
    if bytes_eq word (codes "solve") then two.Solve else
    if bytes_eq word (codes "cnf") then two.Cnf else
    if bytes_eq word (codes "decide") then two.Decide else
    if bytes_eq word (codes "certify") then two.Certify else
    if bytes_eq word (codes "check") then two.Check else two.Other

-- what a word asks for after which three words stand
abbrev pub three_of : List ℕ → Three
three_of word = if bytes_eq word (codes "decide") then three.Decide else three.Other

-- what a word asks for that names a command on an image
abbrev pub on_image : List ℕ → OnImage
on_image word =
    if bytes_eq word (codes "format") then on.Format else
    if bytes_eq word (codes "run") then on.Run else on.Other
