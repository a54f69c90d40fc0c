-- Files, what they declare, and what a name means in one.
use Rattle.std.specs.Prelude.{Bool, true, false, ◌&&◌, ◌||◌, List, [], ◌∷◌, ◌++◌, ℕ, eqb}
use Rattle.std.proofs.Math.Option.{Option, some, none}
use Rattle.base.specs.Base.{pick, opt, on_some, Word, same, among}
use Rattle.lexer.specs.Tokens.{Tok, Line, lines, pieces}
use Rattle.lexer.specs.Words.{k_num, k_bool}
use Rattle.grammar.specs.Grammar.{item_of, Item, nothing, i_use, i_kind, i_rec, i_def, i_bad, Field}

pub record File : Type 0 where
  pub name : Word
  pub text : List ℕ

abbrev pub Texts : Type 0
Texts = List File

abbrev pub find_file : Texts → Word → Option File
find_file [] f = none
find_file (x ∷ xs) f = pick (same x.name f) (some x) (find_file xs f)

-- types; a kind or a record is known by its file and its name
pub data Ty : Type 0 where
  t_num : Ty
  t_bool : Ty
  t_of : Word → Word → Ty

abbrev pub same_ty : Ty → Ty → Bool
same_ty t_num t_num = true
same_ty t_num t_bool = false
same_ty t_num (t_of f n) = false
same_ty t_bool t_num = false
same_ty t_bool t_bool = true
same_ty t_bool (t_of f n) = false
same_ty (t_of f n) t_num = false
same_ty (t_of f n) t_bool = false
same_ty (t_of f n) (t_of g m) = same f g && same n m

-- a declared name: where its line begins and its place in it, its kind of thing: 0 a kind, 1 a constant, 2 a record, 3 a def; the type's name (of a constant its kind's, of a def its result's), and fields or parameters
pub record Decl : Type 0 where
  pub name : Word
  pub start : ℕ
  pub from : ℕ
  pub to : ℕ
  pub sort : ℕ
  pub ty : Word
  pub fields : List Field

abbrev pub decl : ℕ → Tok → ℕ → Word → List Field → Decl
decl s t k ty fs = record { name = t.w; start = s; from = t.from; to = t.to; sort = k; ty = ty; fields = fs }

abbrev pub consts : ℕ → Word → List Tok → List Decl
consts s k [] = []
consts s k (t ∷ ts) = decl s t 1 k [] ∷ consts s k ts

abbrev pub decls_item : ℕ → Item → List Decl
decls_item s nothing = []
decls_item s (i_use t) = []
decls_item s (i_kind t cs) = decl s t 0 t.w [] ∷ consts s t.w cs
decls_item s (i_rec t fs) = decl s t 2 t.w fs ∷ []
decls_item s (i_def t ps r e) = decl s t 3 r.w ps ∷ []
decls_item s (i_bad a b) = []

abbrev pub decls_lines : List Line → List Decl
decls_lines [] = []
decls_lines (l ∷ ls) = decls_item l.start (item_of (pieces l)) ++ decls_lines ls

abbrev pub decls : File → List Decl
decls f = decls_lines (lines f.text)

abbrev pub find_decl : List Decl → Word → Option Decl
find_decl [] w = none
find_decl (d ∷ ds) w = pick (same d.name w) (some d) (find_decl ds w)

abbrev pub uses_item : Item → List Word
uses_item nothing = []
uses_item (i_use t) = t.w ∷ []
uses_item (i_kind t cs) = []
uses_item (i_rec t fs) = []
uses_item (i_def t ps r e) = []
uses_item (i_bad a b) = []

abbrev pub adds : List Word → List Word → List Word
adds [] ws = ws
adds (v ∷ vs) ws = adds vs (pick (among v ws) ws (ws ++ (v ∷ [])))

-- the files that a file uses, each once, without itself
abbrev pub uses_lines : Word → List Line → List Word → List Word
uses_lines me [] ws = ws
uses_lines me (l ∷ ls) ws = uses_lines me ls (not_me (uses_item (item_of (pieces l))))
  where
    not_me : List Word → List Word
    not_me [] = ws
    not_me (v ∷ vs) = pick (same v me) ws (adds (v ∷ []) ws)

abbrev pub used : File → List Word
used f = uses_lines f.name (lines f.text) []

-- which declaration a name means: its file's first of that name; else that of the one used file that has it
pub record At : Type 0 where
  pub file : Word
  pub decl1 : Decl

pub data Found : Type 0 where
  unknown : Found
  several : Found
  one : At → Found

abbrev pub in_file : Texts → Word → Word → Option At
in_file p f w = on_some (find_file p f) (λ x. on_some (find_decl (decls x) w) (λ d. some (record { file = f; decl1 = d })))

abbrev pub among_used : Texts → Word → List Word → Found → Found
among_used p w [] r = r
among_used p w (g ∷ gs) r = among_used p w gs (opt (in_file p g w) r (λ a. also r a))
  where
    also : Found → At → Found
    also unknown a = one a
    also several a = several
    also (one b) a = several

abbrev pub meaning : Texts → Word → Word → Found
meaning p f w = opt (in_file p f w) (opt (find_file p f) unknown (λ x. among_used p w (used x) unknown)) one

-- a type's name in a file
abbrev pub type_at : At → Option Ty
type_at a = pick (eqb a.decl1.sort 0 || eqb a.decl1.sort 2) (some (t_of a.file a.decl1.name)) none

abbrev pub found_type : Found → Option Ty
found_type unknown = none
found_type several = none
found_type (one a) = type_at a

abbrev pub type_named : Texts → Word → Word → Option Ty
type_named p f w = pick (same w k_num) (some t_num) (pick (same w k_bool) (some t_bool) (found_type (meaning p f w)))

-- what a use of a name needs to know: nothing about places
pub record Slot : Type 0 where
  pub name : Word
  pub ty : Option Ty

pub data Sig : Type 0 where
  s_unknown : Sig
  s_several : Sig
  -- a type; a constant; a record with fields; a def with parameters and result
  s_type : Word → Word → Sig
  s_const : Word → Word → Option Ty → Sig
  s_rec : Word → Word → List Slot → Sig
  s_def : Word → Word → List Slot → Option Ty → Sig

abbrev pub slots : Texts → Word → List Field → List Slot
slots p f [] = []
slots p f (x ∷ xs) = record { name = x.name.w; ty = type_named p f x.ty.w } ∷ slots p f xs

abbrev pub sig_decl : Texts → Word → Decl → Sig
sig_decl p f d = pick (eqb d.sort 0) (s_type f d.name) (pick (eqb d.sort 1) (s_const f d.name (type_named p f d.ty)) (pick (eqb d.sort 2) (s_rec f d.name (slots p f d.fields)) (s_def f d.name (slots p f d.fields) (type_named p f d.ty))))

abbrev pub sig_of : Texts → Found → Sig
sig_of p unknown = s_unknown
sig_of p several = s_several
sig_of p (one a) = sig_decl p a.file a.decl1

abbrev pub sig : Texts → Word → Word → Sig
sig p f w = sig_of p (meaning p f w)
