-- What `request_of` refuses is what `HasRequestFault` states.
use Rattle.std.proofs.Common.{◌≡◌, ◌≢◌, ℕ, List, [], Bool, true, false, cond, Result, Ok, Err, refl, sym, ap, ◌∙◌, ◌⊎◌, inl, inr, ⊎_elim}
use Rattle.std.specs.Prelude.{IfErr, ◌==◌}
use Rattle.std.proofs.lemmas.Bool.{cond_both, eqb-true}
use Rattle.obcp_messages.specs.Request.{HasRequestFault, subtype_of}
use Rattle.obcp_messages.specs.Reading.{activation_in, request_in, request_of}
use Rattle.obcp_messages.specs.declared.request.Request.{Request}
use Rattle.obcp_messages.specs.declared.request.Request.TheVariants.{Load, Unload, Activate, Stop, Suspend, Resume, Communicate, Status, Abort}
use Rattle.obcp_types.specs.declared.failure.RequestFault.{RequestFault}
use Rattle.obcp_types.specs.declared.failure.RequestFault.TheVariants.{Service, Subtype, Layout}
use Rattle.ocp_profile.specs.declared.profile.Profile.{Profile}
use Rattle.ocp_profile.specs.declared.profile.Profile.TheVariants.{One, Two}
use Rattle.obcp_messages.proofs.Requests.{only_request}

-- an Ok, or the fault Layout
abbrev IsLayoutAtMost : Result Request RequestFault → Type 0
IsLayoutAtMost r = (fault : RequestFault) → r ≡ Err fault → fault ≡ Layout

by_test : (test : Bool) (request : Request) → IsLayoutAtMost (cond test (Ok request) (Err Layout))
by_test true request fault e = absurd cc
by_test false request fault e = cc

of_activation : (profile : Profile) (octets : List ℕ) → IsLayoutAtMost (activation_in profile octets)
of_activation One octets = by_test _ _
of_activation Two octets = by_test _ _

-- the fault of data of a request's subtype is Layout
of_request : (profile : Profile) (request : Request) (octets : List ℕ) → IsLayoutAtMost (request_in profile (subtype_of request) octets)
of_request profile (Load id code) octets = by_test _ _
of_request profile (Unload id) octets = by_test _ _
of_request profile (Activate id budget arguments) octets = of_activation profile octets
of_request profile (Stop id step) octets = by_test _ _
of_request profile (Suspend id step) octets = by_test _ _
of_request profile (Resume id) octets = by_test _ _
of_request profile (Communicate id words) octets = by_test _ _
of_request profile Status octets = by_test _ _
of_request profile (Abort id) octets = by_test _ _

-- the subtype is a request's
abbrev Known : ℕ → Type 0
Known subtype = (request : Request) × (subtype ≡ subtype_of request)

-- a subtype is a request's, or the fault is Subtype
known : (profile : Profile) (subtype : ℕ) (octets : List ℕ) → Known subtype ⊎ (request_in profile subtype octets ≡ Err Subtype)
known profile subtype octets =
    let P : Result Request RequestFault → Type 0 = λ r. Known subtype ⊎ (r ≡ Err Subtype) in
    cond_both (subtype == 1) _ _ P (λ e. inl (Load 0 [], eqb-true subtype 1 e))
    (λ _. cond_both (subtype == 2) _ _ P (λ e. inl (Unload 0, eqb-true subtype 2 e))
    (λ _. cond_both (subtype == 3) _ _ P (λ e. inl (Activate 0 0 [], eqb-true subtype 3 e))
    (λ _. cond_both (subtype == 4) _ _ P (λ e. inl (Stop 0 0, eqb-true subtype 4 e))
    (λ _. cond_both (subtype == 5) _ _ P (λ e. inl (Suspend 0 0, eqb-true subtype 5 e))
    (λ _. cond_both (subtype == 6) _ _ P (λ e. inl (Resume 0, eqb-true subtype 6 e))
    (λ _. cond_both (subtype == 7) _ _ P (λ e. inl (Communicate 0 [], eqb-true subtype 7 e))
    (λ _. cond_both (subtype == 8) _ _ P (λ e. inl (Status, eqb-true subtype 8 e))
    (λ _. cond_both (subtype == 12) _ _ P (λ e. inl (Abort 0, eqb-true subtype 12 e))
    (λ _. inr refl)))))))))

-- a fault of data whose subtype is a request's is Layout
known_fault : (profile : Profile) (subtype : ℕ) (octets : List ℕ) (fault : RequestFault) → Known subtype → request_in profile subtype octets ≡ Err fault → fault ≡ Layout
known_fault profile subtype octets fault is e = of_request profile is.0 octets fault (sym (ap (λ n. request_in profile n octets) is.1) ∙ e)

of_service : (profile : Profile) (service subtype : ℕ) (octets : List ℕ) (fault : RequestFault) → fault ≢ Service → request_of profile service subtype octets ≡ Err fault →
    (service ≡ 18) × (request_in profile subtype octets ≡ Err fault)
of_service profile service subtype octets fault other =
    let P : Result Request RequestFault → Type 0 = λ r. r ≡ Err fault → (service ≡ 18) × (request_in profile subtype octets ≡ Err fault) in
    cond_both (service == 18) _ _ P (λ is e. (eqb-true service 18 is, e)) (λ no e. absurd (other cc))

fault_is : (profile : Profile) (service subtype : ℕ) (octets : List ℕ) (fault : RequestFault) → request_of profile service subtype octets ≡ Err fault → HasRequestFault profile service subtype octets fault
fault_is profile service subtype octets Service e = λ is.
    let in_service : request_in profile subtype octets ≡ Err Service = sym (ap (λ n. request_of profile n subtype octets) is) ∙ e in
    ⊎_elim (λ k. let q = known_fault profile subtype octets Service k in_service in absurd cc) (λ unknown. absurd cc) (known profile subtype octets)
fault_is profile service subtype octets Subtype e =
    let is = of_service profile service subtype octets Subtype (λ q. absurd cc) e in
    (is.0, λ request q. let r = known_fault profile subtype octets Subtype (request, q) is.1 in absurd cc)
fault_is profile service subtype octets Layout e =
    let is = of_service profile service subtype octets Layout (λ q. absurd cc) e in (
      is.0,
      ⊎_elim (λ k. k) (λ unknown. absurd cc) (known profile subtype octets),
      λ request p. let q = only_request profile service subtype octets request p in absurd cc,
    )

by_fault : (r : Result Request RequestFault) (P : RequestFault → Type 0) → ((fault : RequestFault) → r ≡ Err fault → P fault) → IfErr r P
by_fault (Ok request) P h = tt
by_fault (Err fault) P h = h fault refl

pub request_fault : (profile : Profile) (service subtype : ℕ) (octets : List ℕ) → IfErr (request_of profile service subtype octets) (HasRequestFault profile service subtype octets)
request_fault profile service subtype octets = by_fault (request_of profile service subtype octets) (HasRequestFault profile service subtype octets) (fault_is profile service subtype octets)
