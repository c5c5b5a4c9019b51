use Rattle.std.proofs.Common.{◌≡◌, List, [], map, OnOk, IfOk, subst, sym}
use Rattle.ygg_syntax.specs.declared.tree.File.{File}
use Rattle.ygg_oblige_laws.proofs.of_ygg_meaning_laws.Derived.{derivable_derived}
use Rattle.ygg_oblige_laws.specs.ygg_bank.declared.node.Id.{Id}
use Rattle.ygg_oblige_laws.specs.ygg_bank.declared.node.Node.{Node}
use Rattle.ygg_oblige_laws.specs.ygg_meaning.Claims.{claims_of}
use Rattle.ygg_oblige_laws.specs.ygg_meaning.Stack.{layers_of}
use Rattle.ygg_oblige.proofs.Carried.{on_value_of}
use Rattle.ygg_oblige_laws.specs.Meaning.{AreTermsIn, claim_name}
use Rattle.ygg_oblige_laws.specs.Terms.{file_made}
use Rattle.ygg_oblige_laws.proofs.Files.{typed_layers}
use Rattle.ygg_oblige_laws.specs.TypedLayers.{LayersTyped}
use Rattle.ygg_oblige_laws.proofs.Whole.{file_terms_mean}
use Rattle.ygg_oblige.specs.Obligations as listed
use Rattle.ygg_oblige.specs.declared.obligation.Obligation as code
use Rattle.ygg_oblige.proofs.obligations.Goals as goal

pub obligations_of_file-requires-clause-typed : goal.obligations_of_file-requires-clause-typed
obligations_of_file-requires-clause-typed g c =
    let f = c.args.typed.now.file in
    subst (λ (z : File). LayersTyped z.defs z.disk (layers_of z)) (sym c.file-file.ensures.same)
    (typed_layers f (derivable_derived f c.file-file.ensures.derivable) c.file-file.ensures.typed)

pub returns-clause-nodes : goal.returns-clause-nodes
returns-clause-nodes g c =
    subst (λ (z : File). OnOk c.obligations_of_file.result (c.obligations_of_file.new.bank ≡ (file_made (g.B.Book.kinds c.args.book.now) z []).nodes))
    c.file-file.ensures.same c.obligations_of_file.ensures.nodes

pub returns-clause-terms : goal.returns-clause-terms
returns-clause-terms g c =
    subst (λ (z : File). IfOk c.obligations_of_file.result (λ (all : List code.Obligation). listed.terms_in all
    ≡ (file_made (g.B.Book.kinds c.args.book.now) z []).value)) c.file-file.ensures.same c.obligations_of_file.ensures.terms

pub returns-clause-names : goal.returns-clause-names
returns-clause-names g c =
    subst (λ (z : File). IfOk c.obligations_of_file.result (λ (all : List code.Obligation). listed.names_in all ≡ map claim_name (claims_of z)))
    c.file-file.ensures.same c.obligations_of_file.ensures.names

pub returns-clause-claims : goal.returns-clause-claims
returns-clause-claims g c =
    subst (λ (z : File). IfOk c.obligations_of_file.result (listed.AreClaims z (claims_of z))) c.file-file.ensures.same c.obligations_of_file.ensures.claims

pub returns-clause-mean : goal.returns-clause-mean
returns-clause-mean g c =
    let f = c.args.typed.now.file in
    let kinds = g.B.Book.kinds c.args.book.now in
    on_value_of listed.terms_in (λ (nodes : List Node) (ts : List Id). AreTermsIn f nodes ts) (file_made kinds f []) c.obligations_of_file.new.bank
    c.obligations_of_file.result (returns-clause-nodes g c) (returns-clause-terms g c) c.obligations_of_file.ensures.bank
    (file_terms_mean kinds f (derivable_derived f c.file-file.ensures.derivable) c.file-file.ensures.typed)
